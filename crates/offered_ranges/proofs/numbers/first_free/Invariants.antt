use Rattle.std.proofs.Common.{◌-◌, ◌<◌, ◌^◌}
use Rattle.offered_ranges.proofs.Free.{NoneBelow}
use Rattle.offered_ranges.proofs.numbers.first_free.Given as goal

abbrev pub invariant-loop-end : goal.invariant-loop-end
invariant-loop-end l = (l.from < 2 ^ 33) × NoneBelow l.from l.count l.taken

abbrev pub decreases-loop-end : goal.decreases-loop-end
decreases-loop-end l = 2 ^ 33 - l.from
