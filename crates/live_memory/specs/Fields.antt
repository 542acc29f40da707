-- The fields of a line of /proc/PID/maps.
use Rattle.std.specs.Prelude.{ℕ, ◌+◌, ◌-◌, ◌*◌, ◌%◌, ◌^◌, ◌==◌, ◌&&◌, nat_le, nat_lt, Bool, if◌then◌else◌, List, [], ◌∷◌, length, Option, Some, None}
use Rattle.std.specs.List.{before_first, after_first, position_or_len}

-- what is found passed on to what is looked for next. None: something was not found
infixl 10 ◌>>=◌
abbrev pub ◌>>=◌ : {A B : Type 0} → Option A → (A → Option B) → Option B
None >>= f = None
(Some x) >>= f = f x

abbrev pub is_space : ℕ → Bool
is_space b = b == 32

abbrev pub is_dash : ℕ → Bool
is_dash b = b == 45

-- What comes before the first space, and what comes after it. None: there is no space.
unfoldable pub word_in : List ℕ → Option (List ℕ × List ℕ)
word_in bytes =
    if nat_lt (position_or_len is_space bytes) (length bytes) then Some (before_first is_space bytes, after_first is_space bytes) else None

-- what comes before the first '-', and what comes after it
unfoldable pub part_in : List ℕ → Option (List ℕ × List ℕ)
part_in bytes =
    if nat_lt (position_or_len is_dash bytes) (length bytes) then Some (before_first is_dash bytes, after_first is_dash bytes) else None

-- without the spaces that it begins with
abbrev pub behind_spaces : List ℕ → List ℕ
behind_spaces [] = []
behind_spaces (b ∷ bytes) = if is_space b then behind_spaces bytes else b ∷ bytes

-- a digit to base 16: 0 to 9, or a to f
abbrev pub digit_in : ℕ → Option ℕ
digit_in c = if nat_le 48 c && nat_le c 57 then Some (c - 48) else if nat_le 97 c && nat_le c 102 then Some (c - 87) else None

-- the number that digits spell with one more, if it is below 2^64 and the digits before spell n
abbrev pub with_digit : ℕ → ℕ → Option ℕ
with_digit n c = digit_in c >>= λ d. if nat_lt (16 * n + d) (2 ^ 64) then Some (16 * n + d) else None

-- the number that digits spell, if those before them spell n
abbrev pub value_on : ℕ → List ℕ → Option ℕ
value_on n [] = Some n
value_on n (c ∷ cs) = with_digit n c >>= λ m. value_on m cs

-- an address: digits to base 16, one at least, of a number below 2^64
unfoldable pub address_in : List ℕ → Option ℕ
address_in word = if length word == 0 then None else value_on 0 word

-- FROM-TO: addresses of whole pages, one at least
unfoldable pub range_in : List ℕ → Option (ℕ × ℕ)
range_in word = do
  ends ← part_in word
  from ← address_in ends.0
  to ← address_in ends.1
  if nat_lt from to && from % 4096 == 0 && to % 4096 == 0 then Some (from, to) else None
