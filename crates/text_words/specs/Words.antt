-- The words of a line. Exactly one space separates them, and there is none at either end: so a second space in a row, and one
-- at an end, leave an empty word, which nothing accepts.
use Rattle.std.specs.Prelude.{ℕ, ◌+◌, ◌-◌, ◌*◌, ◌%◌, ◌^◌, ◌==◌, ◌&&◌, ◌||◌, nat_le, nat_lt, Bool, false, if◌then◌else◌, List, [], ◌∷◌, ◌++◌, length, Option, Some, None, Result, Ok, Err}
use Rattle.std.specs.List.{list_all, before_first, after_first, position_or_len}
use Rattle.std.specs.Str.{all_ascii_digits}
use Rattle.hex.specs.Hex.{decode_of}
use Rattle.hex.specs.declared.error.FromHexError.{FromHexError}
use Rattle.text_words.specs.declared.fault.Cause.{Cause}
use Rattle.text_words.specs.declared.fault.Cause.TheVariants.{Form}

-- an answer passed on to what is asked next: the first error is the answer of the whole
infixl 10 ◌>>=◌
abbrev pub ◌>>=◌ : {A B F : Type 0} → Result A F → (A → Result B F) → Result B F
(Ok x) >>= f = f x
(Err e) >>= f = Err e

-- some elements before those of an answer
abbrev pub with_front : {T F : Type 0} → List T → Result (List T) F → Result (List T) F
with_front front read = read >>= λ xs. Ok (front ++ xs)

abbrev pub is_space : ℕ → Bool
is_space b = b == 32

-- what comes after the first space, if there is one
abbrev pub behind_space : List ℕ → Option (List ℕ)
behind_space bytes = if nat_lt (position_or_len is_space bytes) (length bytes) then Some (after_first is_space bytes) else None

-- The next word of what is left of a line, and what is left after its space. None: no word is left.
unfoldable pub word_at : Option (List ℕ) → Result (List ℕ × Option (List ℕ)) Cause
word_at None = Err Form
word_at (Some bytes) = Ok (before_first is_space bytes, behind_space bytes)

-- no word is left
abbrev pub nothing_at : Option (List ℕ) → Result (Unit {0}) Cause
nothing_at None = Ok tt
nothing_at (Some bytes) = Err Form

-- the number that digits spell, if the digits before them spell n
abbrev pub value_on : ℕ → List ℕ → ℕ
value_on n [] = n
value_on n (c ∷ cs) = value_on (10 * n + (c - 48)) cs

-- at least one digit, with no needless zero in front
abbrev pub is_plain : List ℕ → Bool
is_plain [] = false
is_plain (c ∷ []) = all_ascii_digits (c ∷ [])
is_plain (c ∷ d ∷ cs) = nat_lt 48 c && all_ascii_digits (c ∷ d ∷ cs)

-- a number that is at most this, in its one spelling
unfoldable pub number_to : ℕ → List ℕ → Result ℕ Cause
number_to most word = if is_plain word && nat_le (value_on 0 word) most then Ok (value_on 0 word) else Err Form

-- a NUMBER: at most 4,294,967,295
abbrev pub number : List ℕ → Result ℕ Cause
number word = number_to (2 ^ 32 - 1) word

-- 0 to 9, and a to f
abbrev pub is_lower_digit : ℕ → Bool
is_lower_digit c = (nat_le 48 c && nat_le c 57) || (nat_le 97 c && nat_le c 102)

-- two lower case digits for each byte, and at least one byte
abbrev pub is_bytes_word : List ℕ → Bool
is_bytes_word word = nat_lt 0 (length word) && (length word % 2 == 0) && list_all is_lower_digit word

abbrev pub or_none : Result (List ℕ) FromHexError → List ℕ
or_none (Ok bytes) = bytes
or_none (Err e) = []

-- the bytes that hexadecimal digits spell, two digits for each
abbrev pub spelled : List ℕ → List ℕ
spelled word = or_none (decode_of word)

-- BYTES
unfoldable pub bytes_in : List ℕ → Result (List ℕ) Cause
bytes_in word = if is_bytes_word word then Ok (spelled word) else Err Form

-- the next word, as a NUMBER
unfoldable pub number_at : Option (List ℕ) → Result (ℕ × Option (List ℕ)) Cause
number_at left = do
  word ← word_at left
  n ← number word.0
  Ok (n, word.1)
