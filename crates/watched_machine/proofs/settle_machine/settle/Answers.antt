use Rattle.std.proofs.Common.{◌≡◌, ap}
use Rattle.merge_core.specs.Shown.{Shown, state_of}
use Rattle.merge_machine.specs.Machines.{opening}
use Rattle.merge_machine.specs.View.{journal_of, machine_of}
use Rattle.merge_settle.specs.View.{settled_core, settled_journal}
use Rattle.watched_machine.specs.Lists.{published}
use Rattle.watched_machine.proofs.Publishing.{fronts_stay}
use Rattle.watched_machine.proofs.settle_machine.settle.Goals as goal

pub invariant_of-settled : goal.invariant_of-settled
invariant_of-settled g c =
    let m = c.args.merger in let s = c.in-Ok.settled in record {
      reports = fronts_stay g.H.HashFunction.hash_of (machine_of m.merger) (opening (state_of (settled_core s))) (journal_of m.merger) (settled_journal s) (published m.publisher)
          (ap (λ (core : Shown). opening (state_of core)) c.in-Ok.ensures.core) c.in-Ok.ensures.journal m.reports;
    }

pub invariant_of-merger : goal.invariant_of-merger
invariant_of-merger g c =
    let m = c.args.merger in let u = c.in-Err.unsettled in record {
      reports = fronts_stay g.H.HashFunction.hash_of (machine_of m.merger) (machine_of u.merger) (journal_of m.merger) (journal_of u.merger) (published m.publisher)
          (ap (λ (core : Shown). opening (state_of core)) c.in-Err.ensures.unsettled.core) c.in-Err.ensures.unsettled.journal m.reports;
    }
