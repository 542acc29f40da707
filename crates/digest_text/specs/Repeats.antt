-- Lines that begin as a line before them.
use Rattle.std.specs.Prelude.{◌≡◌, ℕ, List, ◌++◌, Option, Some, None}
use Rattle.digest_text.specs.Fields.{digest_in, field_in, head_in, ◌>>=◌}
use Rattle.guest_digests.specs.declared.line.DigestLine.{DigestLine}
use Rattle.digest_text.specs.Noted.{IsRow}
use Rattle.digest_text.specs.declared.head.DigestHead.{DigestHead}
use Rattle.digest_text.specs.declared.so_far.SoFar.{SoFar}

-- these bytes spell the first four fields, whatever stands behind them
pub record Spells (front : List ℕ) (head : DigestHead) : Type 0 where
  pub before : (rest : List ℕ) → head_in (front ++ rest) ≡ Some (head, rest)

-- once a line was read, these bytes spell what all lines begin with
abbrev pub IsFront : Option SoFar → List ℕ → Type 0
IsFront lines front = (so_far : SoFar) → lines ≡ Some so_far → Spells front so_far.head

-- the digest that the first field spells, and what is left behind that field
abbrev pub digest_first : List ℕ → Option (ℕ × List ℕ)
digest_first bytes = do
  first ← field_in bytes
  digest ← digest_in first.0
  Some (digest, first.1)

-- a line was noted that begins as those before it, or nothing was noted
abbrev pub IsRepeated : SoFar → SoFar → List ℕ → Option DigestLine → Type 0
IsRepeated old new bytes None = new ≡ old
IsRepeated old new bytes (Some line) = IsRow (Some old) (Some new) bytes line
