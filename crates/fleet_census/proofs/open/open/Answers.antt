use Rattle.digest_text.specs.Unread.{rows_left}
use Rattle.fleet_census.specs.Tournaments.{leaves}
use Rattle.std.proofs.Common.{◌+◌, length, map, arith, ◌∙◌}
use Rattle.fleet_census.proofs.Opened.{fault_anywhere}
use Rattle.fleet_census.proofs.Takes.{chained_to}
use Rattle.fleet_census.proofs.open.open.Goals as goal

pub returns-clause-read : goal.returns-clause-read
returns-clause-read g c files long chained =
    let so_far = c.loop-file.invariant in
    chained_to files c.loop-file.file (length files) _ _ (omega (arith, long, c.loop-file-test.false, so_far.readers)) (so_far.chained files long chained)

pub returns-in-Err-clause-read : goal.returns-in-Err-clause-read
returns-in-Err-clause-read g c files long chained =
    let so_far = c.loop-file.invariant in
    (c.in-Err.ensures {u = tt}).read files (omega (arith, long, so_far.readers)) (so_far.chained files long chained)

pub returns-in-Err-clause-opened : goal.returns-in-Err-clause-opened
returns-in-Err-clause-opened g c fleet long whole =
    let so_far = c.loop-file.invariant in
    fault_anywhere fleet (c.loop-file.file + 1) (length fleet) (leaves c.open_next.new.tournament.files c.open_next.new.tournament.entries.items) (map (rows_left {A = g.row.A.Denot} g.R.Read.remaining) c.open_next.new.readers) c.open_next.new.zeros.items c.open_next.new.guests.items c.in-Err.fault
    ((c.in-Err.ensures {u = tt}).opened fleet (omega (arith, long, so_far.readers)) (whole.rise c.loop-file.file (omega (arith, long, c.loop-file-test.true, so_far.readers))) (so_far.opened fleet long whole))

pub loop-file-preserved : goal.loop-file-preserved
loop-file-preserved g c =
    let so_far = c.loop-file.invariant in
    let next = c.in-Ok.ensures {u = tt} in
    record {
      files = next.files ∙ so_far.files;
      readers = c.open_next.auto.readers ∙ so_far.readers;
      own = next.own;
      zeros_len = omega (arith, next.lens.0);
      guests_len = omega (arith, next.lens.1);
      zeros_room = next.room.0 ∙ so_far.zeros_room;
      guests_room = next.room.1 ∙ so_far.guests_room;
      chained = λ files long chained. next.read files (omega (arith, long, so_far.readers)) (so_far.chained files long chained);
      opened = λ fleet long whole. next.opened fleet (omega (arith, long, so_far.readers)) (whole.rise c.loop-file.file (omega (arith, long, c.loop-file-test.true, so_far.readers))) (so_far.opened fleet long whole);
    }
