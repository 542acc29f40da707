use Rattle.std.proofs.Common.{◌≡◌, drop}
use Rattle.trace_text.specs.Plays.{first_wrong}
use Rattle.trace_text.proofs.playing.first_wrong.Given as goal

-- what is left of the steps leads to the same answer
abbrev pub invariant-loop-place : goal.invariant-loop-place
invariant-loop-place g l = first_wrong l.place l.mappings (drop l.place l.steps) ≡ first_wrong 0 l.fn.mappings l.fn.steps
