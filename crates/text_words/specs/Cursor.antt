-- What is left of a line after its first words, and what a reader of words returns, as lists.
use Rattle.std.specs.Prelude.{ℕ, ◌+◌, ◌==◌, ◌<◌, ◌≡◌, List, length, Option, Some, None, Result, Ok, Err, MatchOption}
use Rattle.std.specs.List.{position_or_len, before_first, after_first}
use denote.Ref.{Bor}

-- the bytes that are left. None: no word is left
abbrev pub left : Option (Bor (List ℕ)) → Option (List ℕ)
left None = None
left (Some bytes) = Some bytes.now

-- an answer whose value is seen by view
abbrev pub seen : {X Y F : Type 0} → (X → Y) → Result X F → Result Y F
seen view (Ok x) = Ok (view x)
seen view (Err e) = Err e

-- the bytes are cut at the first byte of this value; None: there is no such byte
abbrev pub IsCut : ℕ → List ℕ → Option (Bor (List ℕ) × Bor (List ℕ)) → Type 0
IsCut byte bytes cut = MatchOption cut (position_or_len (λ b. b == byte) bytes ≡ length bytes)
    (λ x. (position_or_len (λ b. b == byte) bytes < length bytes) × (x.0.now ≡ before_first (λ b. b == byte) bytes)
    × (x.1.now ≡ after_first (λ b. b == byte) bytes))

-- the number of bytes that are left, with the space before them
abbrev pub left_length : Option (List ℕ) → ℕ
left_length None = 0
left_length (Some bytes) = length bytes + 1
