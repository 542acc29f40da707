-- The fields of a line of a digest. Commas part them, and nothing is quoted.
use Rattle.std.specs.Prelude.{ℕ, ◌-◌, ◌^◌, ◌==◌, ◌&&◌, nat_lt, Bool, if◌then◌else◌, List, length, Option, Some, None}
use Rattle.std.specs.Int.{w128, from_be_bytes, is_power_of_two}
use Rattle.std.specs.List.{before_first, after_first, position_or_len}
use Rattle.std.specs.Result.{result_ok}
use Rattle.text_words.specs.Words.{is_bytes_word, number_to, spelled}
use Rattle.guest_digests.specs.declared.line.DigestLine.{DigestLine}
use Rattle.digest_text.specs.declared.head.DigestHead.{DigestHead}
use Rattle.digest_text.specs.Names.{name_in}
use Rattle.digest_text.specs.declared.row.TheConstants.{MAX_LINE_BYTES}

-- what is found passed on to what is looked for next. None: something was not found
infixl 10 ◌>>=◌
abbrev pub ◌>>=◌ : {A B : Type 0} → Option A → (A → Option B) → Option B
None >>= f = None
(Some x) >>= f = f x

abbrev pub is_comma : ℕ → Bool
is_comma b = b == 44

-- What comes before the first comma, and what comes after it. None: there is no comma.
unfoldable pub field_in : List ℕ → Option (List ℕ × List ℕ)
field_in bytes =
    if nat_lt (position_or_len is_comma bytes) (length bytes) then Some (before_first is_comma bytes, after_first is_comma bytes) else None

-- a number that is at most this, in its one spelling: digits with no needless zero in front
unfoldable pub number_in : ℕ → List ℕ → Option ℕ
number_in most word = result_ok (number_to most word)

-- a sample: a power of two from 1 to MAX_SAMPLE
unfoldable pub sample_in : List ℕ → Option ℕ
sample_in word = number_in (2 ^ 16) word >>= λ n. if is_power_of_two n then Some n else None

-- a digest: 32 digits from 0 to 9 and a to f, two for each of 16 bytes
unfoldable pub digest_in : List ℕ → Option ℕ
digest_in word = if length word == 32 && is_bytes_word word then Some (from_be_bytes w128 (spelled word)) else None

-- how many copies there are: 1 or more
unfoldable pub copies_in : List ℕ → Option ℕ
copies_in word = number_in (2 ^ 64 - 1) word >>= λ n. if n == 0 then None else Some n

-- the first four fields, and what is left behind them
unfoldable pub head_in : List ℕ → Option (DigestHead × List ℕ)
head_in bytes = do
  first ← field_in bytes
  guest ← name_in first.0
  second ← field_in first.1
  salt ← number_in (2 ^ 32 - 1) second.0
  third ← field_in second.1
  pages ← number_in (2 ^ 64 - 1) third.0
  fourth ← field_in third.1
  sample ← sample_in fourth.0
  Some (record { guest = guest; salt = salt; pages = pages; sample = sample }, fourth.1)

-- the last two fields
unfoldable pub counted_in : List ℕ → Option DigestLine
counted_in bytes = do
  fifth ← field_in bytes
  digest ← digest_in fifth.0
  copies ← copies_in fifth.1
  Some (record { digest = digest; copies = copies })

-- a line: whose digest it is of, and one of its lines
pub record Row : Type 0 where
  pub head : DigestHead
  pub line : DigestLine

-- What a line says. None: it isn't of the form. No line of the form is longer than 256 bytes.
unfoldable pub row_in : List ℕ → Option Row
row_in bytes = if nat_lt MAX_LINE_BYTES (length bytes) then None else (do
  head ← head_in bytes
  line ← counted_in head.1
  Some (record { head = head.0; line = line }))
