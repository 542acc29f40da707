use Rattle.offered_ranges.proofs.Outside.{none_outside}
use Rattle.offered_ranges.proofs.laws.bounds_law.Goals as goal

pub returns : goal.returns
returns c = none_outside
