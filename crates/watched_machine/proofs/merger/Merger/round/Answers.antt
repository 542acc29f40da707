use Rattle.watched_machine.specs.Lists.{published}
use Rattle.watched_machine.proofs.Publishing.{fronts_after_round}
use Rattle.watched_machine.proofs.merger.Merger.round.Goals as goal

pub invariant_of-self : goal.invariant_of-self
invariant_of-self g c =
    let m = c.args.self.now in record {
      reports = fronts_after_round g.H.HashFunction.hash_of c.args.limit m.merger c.round.new.self (published m.publisher) c.round.result c.round.ensures.round c.round.ensures.same m.reports;
    }
