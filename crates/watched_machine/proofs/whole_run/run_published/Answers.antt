use Rattle.std.proofs.Common.{◌≡◌, rules, subst}
use Rattle.merge_core.specs.Shown.{state_of}
use Rattle.merge_machine.specs.Machines.{opening}
use Rattle.merge_settle.specs.View.{settled_journal, settled_core}
use Rattle.watched_machine.specs.Lists.{published}
use Rattle.merge_run.specs.Fronts.{AreOfFronts}
use Rattle.watched_machine.proofs.whole_run.run_published.Goals as goal

-- what was lent comes back, with the reports that were published meanwhile
pub returns-clause-fronts : goal.returns-clause-fronts
returns-clause-fronts g c =
    let ran = c.in_ok-finished in
    let plain = ran.finished.settled in
    let same = ran.ensures.observer.same in
    let back : ran.lent.publisher.now ≡ c.publisher-2-1.given.0 = search (same, rules) in
    subst (λ p. AreOfFronts g.H.HashFunction.hash_of (opening (state_of (settled_core plain))) (settled_journal plain) (published p)) back ran.ensures.observer.fronts
