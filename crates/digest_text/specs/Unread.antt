-- What a reader of a digest's text has yet to read.
use Rattle.std.specs.Prelude.{◌≡◌, ℕ, List, [], ◌∷◌, Option, Some, None, Result, Ok, Err}
use Rattle.std.specs.Option.{option_map}
use Rattle.std.specs.declared.io.Error.{Error}
use Rattle.guest_digests.specs.declared.line.DigestLine.{DigestLine}
use Rattle.digest_text.specs.Fields.{Row}
use Rattle.digest_text.specs.Left.{left}
use Rattle.digest_text.specs.Rows.{◌>>=◌, digest_of, rows_after}
use Rattle.digest_text.specs.declared.digest_reader.DigestReader.{DigestReader}
use Rattle.digest_text.specs.declared.fault.LineFault.{LineFault}
use Rattle.digest_text.specs.declared.read_fault.ReadFault.{ReadFault}
use Rattle.digest_text.specs.declared.read_fault.ReadFault.TheVariants.{OutOfMemory, Read, Line}
use Rattle.digest_text.specs.declared.head.DigestHead.{DigestHead}

module _ {R A : Type 0} where
  -- the rows of the lines that are left, or the first fault among them, where the source's bytes are known
  abbrev pub rows_left : (R → Option (List ℕ)) → DigestReader R A → Option (Result (List Row) LineFault)
  rows_left remaining reader = option_map (rows_after reader.line reader.so_far) (left remaining reader.lines)

  -- what all lines begin with, once a line was read
  abbrev pub head_of : DigestReader R A → Option DigestHead
  head_of reader = option_map (λ so_far. so_far.head) reader.so_far

  -- the error of the last read of a line that failed
  abbrev pub failure_of : DigestReader R A → Option Error
  failure_of reader = reader.failure

-- the error of the last read that failed, after a line was read
abbrev pub failure_after : Option Error → Result (Option DigestLine) ReadFault → Option Error
failure_after failure (Ok line) = failure
failure_after failure (Err (Read error)) = Some error
failure_after failure (Err OutOfMemory) = failure
failure_after failure (Err (Line fault)) = failure

-- a reader of a whole text has yet to read all rows of the text, or the text's first line is at fault
abbrev pub IsFirst : {T : Type 0} → (T → Option (Result (List Row) LineFault)) → List ℕ → Result T ReadFault → Type 0
IsFirst rows_left text (Ok reader) = rows_left reader ≡ Some (digest_of text)
IsFirst rows_left text (Err (Line fault)) = digest_of text ≡ Err fault
IsFirst rows_left text (Err (Read error)) = Unit {0}
IsFirst rows_left text (Err OutOfMemory) = Unit {0}

-- the first row that was to be read has this head and this line, and these are left
pub record IsFirstRow (rows left : Result (List Row) LineFault) (head : Option DigestHead) (line : DigestLine) : Type 0 where
  pub of : DigestHead
  pub known : head ≡ Some of
  pub rows_are : rows ≡ (left >>= λ more. Ok (record { head = of; line = line } ∷ more))

-- A line that is read is the first that was to be read. At the end there was none, and at a fault it was the first one; then, and
-- where a read fails, what is to be read stays.
abbrev pub IsNext : Result (List Row) LineFault → Option (Result (List Row) LineFault) → Option DigestHead
    → Result (Option DigestLine) ReadFault → Type 0
IsNext rows None head result = ⊥
IsNext rows (Some left) head (Ok (Some line)) = IsFirstRow rows left head line
IsNext rows (Some left) head (Ok None) = (rows ≡ Ok []) × (left ≡ rows)
IsNext rows (Some left) head (Err (Line fault)) = (rows ≡ Err fault) × (left ≡ rows)
IsNext rows (Some left) head (Err (Read error)) = left ≡ rows
IsNext rows (Some left) head (Err OutOfMemory) = left ≡ rows
