use Rattle.offered_ranges.proofs.Outside.{none_elsewhere}
use Rattle.offered_ranges.proofs.laws.left_law.Goals as goal

pub returns : goal.returns
returns c = none_elsewhere
