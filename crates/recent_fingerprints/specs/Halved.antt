-- Numbers of 64 bits in two halves.
use Rattle.std.specs.Prelude.{ℕ, ◌+◌, ◌*◌, ◌^◌}
use Rattle.recent_fingerprints.specs.declared.halves.Halves.{Halves}

-- the number that has these halves
abbrev pub whole : Halves → ℕ
whole h = h.high * 2 ^ 32 + h.low
