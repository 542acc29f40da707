-- A guest's digests written as a text, and what it means that the text was written.
use Rattle.std.specs.Prelude.{◌≡◌, ℕ, List, ◌++◌, codes, decimal, flat_map, map, take, Option, Result, Ok, Err}
use Rattle.std.specs.Int.{w128, to_be_bytes}
use Rattle.std.specs.Io.KnownBytes.{Appends}
use Rattle.hex.specs.Hex.{encode_lower}
use Rattle.guest_digests.specs.declared.digests.GuestDigests.{GuestDigests}
use Rattle.guest_digests.specs.declared.line.DigestLine.{DigestLine}
use Rattle.digest_text.specs.Fields.{Row}
use Rattle.digest_text.specs.Rows.{header}
use Rattle.digest_text.specs.declared.head.DigestHead.{DigestHead}
use Rattle.digest_text.specs.declared.write_fault.WriteFault.{WriteFault}
use Rattle.digest_text.specs.declared.write_fault.WriteFault.TheVariants.{OutOfMemory, Write}

-- the first four fields of a line, each with its comma
unfoldable pub head_text : DigestHead → List ℕ
head_text head =
    head.guest ++ (codes "," ++ (decimal head.salt ++ (codes "," ++ (decimal head.pages ++ (codes "," ++ (decimal head.sample ++ codes ","))))))

-- the 32 digits of a digest
abbrev pub digest_word : ℕ → List ℕ
digest_word digest = encode_lower (to_be_bytes w128 digest)

-- the last two fields of a line, and its line feed
unfoldable pub counted_text : DigestLine → List ℕ
counted_text line = digest_word line.digest ++ (codes "," ++ (decimal line.copies ++ codes "\n"))

-- lines that all begin with this
abbrev pub lines_text : List ℕ → List DigestLine → List ℕ
lines_text head lines = flat_map (λ line. head ++ counted_text line) lines

-- the header, and a line for each digest
abbrev pub rows_text : DigestHead → List DigestLine → List ℕ
rows_text head lines = header ++ (codes "\n" ++ lines_text (head_text head) lines)

-- what the lines of a guest's digests begin with
abbrev pub head_for : {A : Type 0} → List ℕ → GuestDigests A → DigestHead
head_for guest digests =
    record { guest = guest; salt = digests.sampling.salt; pages = digests.pages; sample = digests.sampling.every }

-- the text of a guest's digests
abbrev pub text_of : {A : Type 0} → List ℕ → GuestDigests A → List ℕ
text_of guest digests = rows_text (head_for guest digests) digests.lines.items

-- the rows that this text has
abbrev pub rows_of : DigestHead → List DigestLine → List Row
rows_of head lines = map (λ line. record { head = head; line = line }) lines

-- known bytes grew by a front of these bytes
abbrev pub AppendsFront : Option (List ℕ) → Option (List ℕ) → List ℕ → Type 0
AppendsFront old new bytes = (n : ℕ) × Appends old new (take n bytes)

-- all bytes were written; at an error a front of them was. old and new: what the writer holds.
abbrev pub IsSent : {E : Type 0} → Option (List ℕ) → Option (List ℕ) → List ℕ → Result (Unit {0}) E → Type 0
IsSent old new bytes (Ok done) = Appends old new bytes
IsSent old new bytes (Err error) = AppendsFront old new bytes

-- the text was written; where a write failed a front of it was, and nothing if memory was refused
abbrev pub IsWritten : Option (List ℕ) → Option (List ℕ) → List ℕ → Result (Unit {0}) WriteFault → Type 0
IsWritten old new text (Ok done) = Appends old new text
IsWritten old new text (Err (Write error)) = AppendsFront old new text
IsWritten old new text (Err OutOfMemory) = new ≡ old
