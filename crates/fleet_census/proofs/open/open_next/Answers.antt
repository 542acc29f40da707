use Rattle.std.proofs.Common.{◌+◌, ◌<◌, length, map, set, length-drop, refl, sym, arith, ◌∙◌}
use Rattle.std.proofs.lemmas.List.{get_or-map, length-map}
use Rattle.std.specs.Prelude.{None, Ok, Err}
use Rattle.digest_text.specs.Unread.{failure_of, rows_left}
use Rattle.fleet_census.specs.Tournaments.{leaves}
use Rattle.fleet_census.proofs.Opened.{first_on, first_opened, if_ok, joined_read, open_joined, open_read_fault}
use Rattle.fleet_census.proofs.ReadOn.{on}
use Rattle.fleet_census.proofs.Takes.{chained_more, read_fault, no_other, own_put}
use Rattle.fleet_census.proofs.Failed.{failed_on, joined_failed}
use Rattle.fleet_census.proofs.open.open_next.Goals as goal

pub returns-in-Ok-clause-own : goal.returns-in-Ok-clause-own
returns-in-Ok-clause-own g c =
    let t = c.args.tournament.now in
    rw c.put.ensures.leaves (own_put (leaves t.files t.entries.items) c.args.file c.in-Ok.first.entry c.requires.own (c.in-Ok.ensures {u = tt}).own (omega (arith, length-drop t.files t.entries.items, t.len, c.requires.files, c.requires.within)))

pub returns-in-Ok-clause-lens : goal.returns-in-Ok-clause-lens
returns-in-Ok-clause-lens g c = if_ok c.with.result _ (omega (arith, c.push_reserved.ensures.len, c.requires.lens.0), omega (arith, c.push_reserved-in-Ok.ensures.len, c.requires.lens.1))

pub returns-in-Ok-clause-read : goal.returns-in-Ok-clause-read
returns-in-Ok-clause-read g c files long chained =
    let readers = c.args.readers.now in
    let say = rows_left {A = g.row.A.Denot} g.R.Read.remaining in
    let read = first_on say readers c.args.file c.requires.within c.index-readers-file.result c.read_first.new.reader c.in-Ok.first (c.in-Ok.ensures {u = tt}).read in
    let t = c.args.tournament.now in
    rw c.put.ensures.leaves (joined_read files (c.args.file + 1) _ _ c.args.opening c.in-Ok.first c.args.file c.with.result c.with.ensures
    (chained_more files c.args.file (leaves t.files t.entries.items) (map say readers) _ c.args.file (omega (arith, long, c.requires.within)) chained (c.args.file + 1) (λ other lt ne. omega arith) c.in-Ok.first.entry
    (omega (arith, length-map readers say, long)) (omega (arith, length-drop t.files t.entries.items, t.len, c.requires.files, long)) (omega (arith, c.requires.within, c.requires.few)) read))

pub returns-in-Ok-clause-opened : goal.returns-in-Ok-clause-opened
returns-in-Ok-clause-opened g c fleet long rise so_far =
    let t = c.args.tournament.now in
    let readers = c.args.readers.now in
    let say = rows_left {A = g.row.A.Denot} g.R.Read.remaining in
    let within : c.args.file < length fleet = omega (arith, long, c.requires.within) in
    let first = c.in-Ok.first in
    let reads = (c.in-Ok.ensures {u = tt}).read in
    let read = first_on say readers c.args.file c.requires.within c.index-readers-file.result c.read_first.new.reader first reads in
    let opened = first_opened _ c.args.file _ _ first (sym (get_or-map say readers c.args.file c.index-readers-file.result None c.requires.within) ∙ so_far.unread c.args.file (omega arith) within) reads in
    rw (c.put.ensures.leaves, c.push_reserved.ensures.items, c.push_reserved-in-Ok.ensures.items)
    (open_joined fleet c.args.file (leaves t.files t.entries.items) (map say readers) c.args.zeros.now.items c.args.guests.now.items c.args.opening so_far within (omega (arith, long, c.requires.few)) rise _ first read opened
    (omega (arith, length-drop t.files t.entries.items, t.len, c.requires.files, long)) (omega (arith, length-map readers say, long)) (omega (arith, c.requires.lens.0, c.args.zeros.now.ok.0)) (omega (arith, c.requires.lens.1, c.args.guests.now.ok.0))
    c.zeros_digest.result _ c.with.result c.zeros_digest.ensures refl c.with.ensures)

pub returns-in-Err-clause-read : goal.returns-in-Err-clause-read
returns-in-Err-clause-read g c files long chained =
    let readers = c.args.readers.now in
    let say = rows_left {A = g.row.A.Denot} g.R.Read.remaining in
    let read = on say readers c.args.file c.requires.within c.index-readers-file.result c.read_first.new.reader (Err c.in-Err.fault) (c.in-Err.ensures {u = tt}).read in
    read_fault files c.args.file _ (map say readers) _ c.args.file (omega (arith, long, c.requires.within)) chained c.in-Err.fault read

pub returns-in-Err-clause-opened : goal.returns-in-Err-clause-opened
returns-in-Err-clause-opened g c fleet long rise so_far =
    let t = c.args.tournament.now in
    let readers = c.args.readers.now in
    let say = rows_left {A = g.row.A.Denot} g.R.Read.remaining in
    let read = on say readers c.args.file c.requires.within c.index-readers-file.result c.read_first.new.reader (Err c.in-Err.fault) (c.in-Err.ensures {u = tt}).read in
    open_read_fault fleet (c.args.file + 1) (leaves t.files t.entries.items) (map say (set readers c.args.file c.read_first.new.reader)) c.args.zeros.now.items c.args.guests.now.items c.in-Err.fault
    (no_other c.args.file (map say readers) _ c.in-Err.fault (Ok _) (so_far.unread c.args.file (omega arith) (omega (arith, long, c.requires.within))) read)

pub returns-in-Ok-clause-failed : goal.returns-in-Ok-clause-failed
returns-in-Ok-clause-failed g c = joined_failed _ c.args.opening c.in-Ok.first c.args.file c.with.result c.with.ensures

pub returns-in-Err-clause-failed : goal.returns-in-Err-clause-failed
returns-in-Err-clause-failed g c =
    failed_on failure_of c.args.readers.now c.args.file c.requires.within c.index-readers-file.result c.read_first.new.reader c.in-Err.fault (c.in-Err.ensures {u = tt}).failed
