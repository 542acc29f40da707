use Rattle.std.proofs.Common.{◌≡◌, length}
use Rattle.live_memory.specs.Fields.{behind_spaces}
use Rattle.live_memory.proofs.fields.behind_spaces.Given as goal

abbrev pub invariant-loop-first : goal.invariant-loop-first
invariant-loop-first l = behind_spaces l.rest ≡ behind_spaces l.bytes

abbrev pub decreases-loop-first : goal.decreases-loop-first
decreases-loop-first l = length l.rest
