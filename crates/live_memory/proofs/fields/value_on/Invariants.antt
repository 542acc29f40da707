use Rattle.std.proofs.Common.{◌≡◌, drop}
use Rattle.live_memory.specs.Fields.{value_on}
use Rattle.live_memory.proofs.fields.value_on.Given as goal

abbrev pub invariant-loop-byte : goal.invariant-loop-byte
invariant-loop-byte l = value_on l.value (drop l.byte-index l.word) ≡ value_on 0 l.word
