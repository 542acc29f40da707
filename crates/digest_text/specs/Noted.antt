-- How one more line is noted.
use Rattle.std.specs.Prelude.{◌≡◌, ℕ, List, [], Option, Some, None, Result, Ok, Err}
use Rattle.guest_digests.specs.declared.line.DigestLine.{DigestLine}
use Rattle.digest_text.specs.Fields.{Row, row_in}
use Rattle.digest_text.specs.Rows.{after_row, ended, with_row}
use Rattle.digest_text.specs.declared.fault.Cause.{Cause}
use Rattle.digest_text.specs.declared.fault.LineFault.{LineFault}
use Rattle.digest_text.specs.declared.so_far.SoFar.{SoFar}

-- what the lines say after the row was noted, or its fault, and then nothing was noted
abbrev pub IsNoted : Option SoFar → Option SoFar → Row → Result (Unit {0}) Cause → Type 0
IsNoted old None row (Ok done) = ⊥
IsNoted old (Some new) row (Ok done) = (after_row old row ≡ Ok new) × (new.head ≡ row.head)
IsNoted old new row (Err cause) = (after_row old row ≡ Err cause) × (new ≡ old)

-- a line is of the form, and was noted
pub record IsRow (old new : Option SoFar) (bytes : List ℕ) (line : DigestLine) : Type 0 where
  pub after : SoFar
  pub noted : new ≡ Some after
  pub read : with_row old (row_in bytes) ≡ Ok (after, record { head = after.head; line = line })

-- a line was noted, or its fault is reported, and nothing was noted
abbrev pub IsTaken : Option SoFar → Option SoFar → List ℕ → Result DigestLine Cause → Type 0
IsTaken old new bytes (Ok line) = IsRow old new bytes line
IsTaken old new bytes (Err cause) = (with_row old (row_in bytes) ≡ Err cause) × (new ≡ old)

-- nothing is wrong at the end, or the last line is at fault
abbrev pub IsEnd : Option SoFar → ℕ → Result (Unit {0}) LineFault → Type 0
IsEnd so_far n (Ok done) = ended {X = Row} n so_far ≡ Ok []
IsEnd so_far n (Err fault) = ended {X = Row} n so_far ≡ Err fault
