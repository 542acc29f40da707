-- Little-endian words at places of bytes.
use Rattle.std.specs.Prelude.{ℕ, List, take, drop}
use Rattle.std.specs.Int.{w16, w32, w64, from_le_bytes}

-- this many bytes from a place on
abbrev pub part : List ℕ → ℕ → ℕ → List ℕ
part bytes at len = take len (drop at bytes)

abbrev pub u16_at : List ℕ → ℕ → ℕ
u16_at bytes at = from_le_bytes w16 (part bytes at 2)

abbrev pub u32_at : List ℕ → ℕ → ℕ
u32_at bytes at = from_le_bytes w32 (part bytes at 4)

abbrev pub u64_at : List ℕ → ℕ → ℕ
u64_at bytes at = from_le_bytes w64 (part bytes at 8)
