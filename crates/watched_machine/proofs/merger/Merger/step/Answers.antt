use Rattle.watched_machine.specs.Lists.{published}
use Rattle.watched_machine.proofs.Publishing.{fronts_stepped}
use Rattle.watched_machine.proofs.merger.Merger.step.Goals as goal

pub invariant_of-self : goal.invariant_of-self
invariant_of-self g c =
    let m = c.args.self.now in record {
      reports = fronts_stepped g.H.HashFunction.hash_of c.args.guest m.merger c.step.new.self (published m.publisher) c.step.result c.step.ensures.step c.step.ensures.same m.reports;
    }
