use Rattle.offered_ranges.proofs.Outside.{BoundsSo}
use Rattle.offered_ranges.proofs.bound.bounds.Given as goal

abbrev pub invariant-loop-range : goal.invariant-loop-range
invariant-loop-range l = BoundsSo l.ranges l.range-index l.found
