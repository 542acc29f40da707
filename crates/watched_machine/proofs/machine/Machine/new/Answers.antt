use Rattle.std.proofs.Common.{◌≡◌}
use Rattle.merge_machine.specs.View.{journal_of, machine_of}
use Rattle.watched_machine.specs.Lists.{published}
use Rattle.merge_run.proofs.Observing.{fronts_fresh}
use Rattle.watched_machine.proofs.machine.Machine.new.Goals as goal

pub invariant_of-merger : goal.invariant_of-merger
invariant_of-merger g c =
    let m = c.in_ok-merger.merger in record {
      reports = fronts_fresh g.H.HashFunction.hash_of (machine_of m) (journal_of m) (published c.in-Ok.publisher) c.in-Ok.ensures;
    }
