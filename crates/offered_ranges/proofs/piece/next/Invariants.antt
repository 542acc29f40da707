use Rattle.offered_ranges.proofs.Found.{BestSo}
use Rattle.offered_ranges.proofs.piece.next.Given as goal

abbrev pub invariant-loop-place : goal.invariant-loop-place
invariant-loop-place l = BestSo l.begin l.end l.ranges l.place l.first
