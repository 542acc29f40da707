use Rattle.std.proofs.Common.{◌≡◌, length}
use Rattle.live_memory.specs.Details.{has_word}
use Rattle.live_memory.proofs.details.has_word.Given as goal

abbrev pub invariant-loop-first : goal.invariant-loop-first
invariant-loop-first l = has_word l.word l.rest ≡ has_word l.word l.line

abbrev pub decreases-loop-first : goal.decreases-loop-first
decreases-loop-first l = length l.rest
