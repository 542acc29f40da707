use Rattle.std.proofs.Common.{◌≡◌, ◌+◌, ◌≤◌, length, map, length-drop, arith, inl}
use Rattle.std.proofs.lemmas.List.{length-map}
use Rattle.std.specs.Prelude.{Ok}
use Rattle.digest_text.specs.Unread.{rows_left}
use Rattle.fleet_census.specs.Tournaments.{leaves}
use Rattle.fleet_census.proofs.Takes.{all_ended, chained_more, read_fault, first_own, from_digest, later, next_found, no_other, none_left, own_put, passed_range}
use Rattle.fleet_census.proofs.take.take_holder.Goals as goal
use Rattle.fleet_census.proofs.take.take_holder.Goals.{then-first-via-then-first, then-first-via-else-first+then-first-digest}

pub returns-then-first-clause-taken : goal.returns-then-first-clause-taken
returns-then-first-clause-taken g c fleet count long behind =
    let t = c.args.tournament.now in
    let entries = leaves t.files t.entries.items in
    let first = c.first-first.result in
    let is = c.first-first.ensures in
    let len : length entries ≡ length fleet = omega (arith, length-drop t.files t.entries.items, t.len, c.requires.files, long) in
    let few : length fleet ≤ 65536 = omega (arith, long, c.requires.few) in
    let few_leaves : length entries ≤ 65536 = omega (arith, len, few) in
    none_left fleet c.args.digest count entries (map (rows_left {A = g.row.A.Denot} g.R.Read.remaining) c.args.readers.now) behind len few
    (elim c.then-first.branch [
      | then-first-via-then-first w ↦ λ file lt. inl (all_ended entries first is c.requires.own few_leaves w.if-first.true file (omega (arith, lt, len)))
      | then-first-via-else-first+then-first-digest w ↦ λ file lt.
          let own = first_own entries first is c.requires.own few_leaves w.if-first.false in
          let low = from_digest fleet c.args.digest count entries (map (rows_left {A = g.row.A.Denot} g.R.Read.remaining) c.args.readers.now) behind len few first (omega (arith, own.0, len)) own.1 in
          later entries first is c.requires.own few_leaves (c.args.digest + 1) file (omega (arith, lt, len)) (omega (arith, own.0, few_leaves)) (omega (arith, low, (passed_range c.args.digest count first.file).0, w.if-first-digest.true))
    ])

pub holder_of-holder-requires : goal.holder_of-holder-requires
holder_of-holder-requires g c =
    let t = c.args.tournament.now in
    let entries = leaves t.files t.entries.items in
    let count : length entries ≡ t.files = omega (arith, length-drop t.files t.entries.items, t.len) in
    let own = first_own entries c.first-first.result c.first-first.ensures c.requires.own (omega (arith, count, c.requires.files, c.requires.few)) c.if-first.false in
    omega (arith, own.0, count, c.requires.files, c.requires.zeros)

pub read_entry-requires-clause-within : goal.read_entry-requires-clause-within
read_entry-requires-clause-within g c =
    let t = c.args.tournament.now in
    let entries = leaves t.files t.entries.items in
    let count : length entries ≡ t.files = omega (arith, length-drop t.files t.entries.items, t.len) in
    let own = first_own entries c.first-first.result c.first-first.ensures c.requires.own (omega (arith, count, c.requires.files, c.requires.few)) c.if-first.false in
    omega (arith, own.0, count, c.requires.files)

pub put-requires : goal.put-requires
put-requires g c =
    let t = c.args.tournament.now in
    let entries = leaves t.files t.entries.items in
    let count : length entries ≡ t.files = omega (arith, length-drop t.files t.entries.items, t.len) in
    let own = first_own entries c.first-first.result c.first-first.ensures c.requires.own (omega (arith, count, c.requires.files, c.requires.few)) c.if-first.false in
    omega (arith, own.0, count)

pub returns-in-Ok-clause-own : goal.returns-in-Ok-clause-own
returns-in-Ok-clause-own g c =
    let t = c.args.tournament.now in
    let entries = leaves t.files t.entries.items in
    let count : length entries ≡ t.files = omega (arith, length-drop t.files t.entries.items, t.len) in
    let own = first_own entries c.first-first.result c.first-first.ensures c.requires.own (omega (arith, count, c.requires.files, c.requires.few)) c.if-first.false in
    rw c.put.ensures.leaves (own_put entries c.first-first.result.file c.in-Ok.next c.requires.own (c.in-Ok.ensures {u = tt}).own own.0)

pub returns-in-Ok-clause-holder : goal.returns-in-Ok-clause-holder
returns-in-Ok-clause-holder g c =
    let t = c.args.tournament.now in
    let entries = leaves t.files t.entries.items in
    let count : length entries ≡ t.files = omega (arith, length-drop t.files t.entries.items, t.len) in
    let own = first_own entries c.first-first.result c.first-first.ensures c.requires.own (omega (arith, count, c.requires.files, c.requires.few)) c.if-first.false in
    (rw c.holder_of-holder.ensures.is (omega (arith, own.0, count, c.requires.files)), c.holder_of-holder.ensures.part)

pub returns-in-Ok-clause-read : goal.returns-in-Ok-clause-read
returns-in-Ok-clause-read g c files long chained =
    let t = c.args.tournament.now in
    let entries = leaves t.files t.entries.items in
    let count : length entries ≡ t.files = omega (arith, length-drop t.files t.entries.items, t.len) in
    let own = first_own entries c.first-first.result c.first-first.ensures c.requires.own (omega (arith, count, c.requires.files, c.requires.few)) c.if-first.false in
    let old = map (rows_left {A = g.row.A.Denot} g.R.Read.remaining) c.args.readers.now in
    rw c.put.ensures.leaves (chained_more files (length files) entries old _ c.first-first.result.file (omega (arith, own.0, count, c.requires.files, long)) chained (length files) (λ other lt ne. lt) c.in-Ok.next
    (omega (arith, length-map c.args.readers.now (rows_left {A = g.row.A.Denot} g.R.Read.remaining), long)) (omega (arith, count, c.requires.files, long)) (omega (arith, own.0, count, c.requires.files, c.requires.few)) (c.in-Ok.ensures {u = tt}).read)

pub returns-in-Ok-clause-taken : goal.returns-in-Ok-clause-taken
returns-in-Ok-clause-taken g c fleet count long behind =
    let t = c.args.tournament.now in
    let entries = leaves t.files t.entries.items in
    let len : length entries ≡ length fleet = omega (arith, length-drop t.files t.entries.items, t.len, c.requires.files, long) in
    let few : length fleet ≤ 65536 = omega (arith, long, c.requires.few) in
    let own = first_own entries c.first-first.result c.first-first.ensures c.requires.own (omega (arith, len, few)) c.if-first.false in
    let old = map (rows_left {A = g.row.A.Denot} g.R.Read.remaining) c.args.readers.now in
    rw c.put.ensures.leaves (next_found fleet c.args.digest count entries old behind len few c.first-first.result c.in-Ok.next c.args.zeros.now _ c.first-first.ensures c.requires.own (omega (arith, own.0, len)) own.1 c.if-first-digest.false
    (omega (arith, length-map c.args.readers.now (rows_left {A = g.row.A.Denot} g.R.Read.remaining), long)) (c.in-Ok.ensures {u = tt}).read c.holder_of-holder.result c.holder_of-holder.ensures.is)

pub returns-in-Err-clause-read : goal.returns-in-Err-clause-read
returns-in-Err-clause-read g c files long chained =
    let t = c.args.tournament.now in
    let entries = leaves t.files t.entries.items in
    let count : length entries ≡ t.files = omega (arith, length-drop t.files t.entries.items, t.len) in
    let own = first_own entries c.first-first.result c.first-first.ensures c.requires.own (omega (arith, count, c.requires.files, c.requires.few)) c.if-first.false in
    read_fault files (length files) entries (map (rows_left {A = g.row.A.Denot} g.R.Read.remaining) c.args.readers.now) _ c.first-first.result.file (omega (arith, own.0, count, c.requires.files, long)) chained c.in-Err.fault (c.in-Err.ensures {u = tt}).read

pub returns-in-Err-clause-taken : goal.returns-in-Err-clause-taken
returns-in-Err-clause-taken g c fleet count long behind =
    let t = c.args.tournament.now in
    let entries = leaves t.files t.entries.items in
    let len : length entries ≡ t.files = omega (arith, length-drop t.files t.entries.items, t.len) in
    let own = first_own entries c.first-first.result c.first-first.ensures c.requires.own (omega (arith, len, c.requires.files, c.requires.few)) c.if-first.false in
    let it = behind.each c.first-first.result.file (omega (arith, own.0, len, c.requires.files, long)) in
    no_other c.first-first.result.file (map (rows_left {A = g.row.A.Denot} g.R.Read.remaining) c.args.readers.now) _ c.in-Err.fault (Ok it.rest) it.is (c.in-Err.ensures {u = tt}).read
