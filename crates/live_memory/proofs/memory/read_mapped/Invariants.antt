use Rattle.std.proofs.Common.{◌-◌, length}
use Rattle.live_memory.proofs.memory.read_mapped.Given as goal

abbrev pub decreases-loop-done : goal.decreases-loop-done
decreases-loop-done g l = length l.into - l.done
