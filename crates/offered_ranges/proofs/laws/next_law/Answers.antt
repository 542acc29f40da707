use Rattle.offered_ranges.proofs.Counted.{none_before, none_there}
use Rattle.offered_ranges.proofs.laws.next_law.Goals as goal

pub returns-clause-before : goal.returns-clause-before
returns-clause-before c = none_before

pub returns-clause-none : goal.returns-clause-none
returns-clause-none c = none_there
