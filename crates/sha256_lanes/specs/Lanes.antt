-- Several messages side by side: each word of the computation is a vector, with a number for each message.
use Rattle.std.specs.Prelude.{ℕ, zero, suc, ◌+◌, ◌*◌, ◌^◌, List, map, slice_index}

-- the words of message j, where word v j is the one that a vector has for it
abbrev pub lane : {V : Type 0} → (V → ℕ → ℕ) → ℕ → List V → List ℕ
lane word j vectors = map (λ v. word v j) vectors

-- the one of four at place j
abbrev pub one_of : {A : Type 0} → ℕ → A → A → A → A → A
one_of zero a b c d = a
one_of (suc zero) a b c d = b
one_of (suc (suc zero)) a b c d = c
one_of (suc (suc (suc _))) a b c d = d

-- the first four words as one number, the first word highest
abbrev pub four_words_of : List ℕ → ℕ
four_words_of words = (slice_index words 0 * 2 ^ 32 + slice_index words 1) * 2 ^ 64 + (slice_index words 2 * 2 ^ 32 + slice_index words 3)
