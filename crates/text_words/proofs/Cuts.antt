-- Words and lines as lists.
use Rattle.std.proofs.Common.{◌≡◌, ℕ, ◌+◌, ◌<◌, ◌≤◌, true, false, List, [], ◌∷◌, ◌++◌, length, get_or, refl, sym, ap, ◌∙◌, arith, inl, inr, Result, Ok, Err, append_assoc}
use Rattle.std.specs.List.{position_or_len}
use Rattle.std.proofs.lemmas.Bool.{cases_lt}
use Rattle.std.proofs.lemmas.List.Sums.{fails_before_first, passes_at_first}
use Rattle.text_words.specs.Words.{◌>>=◌, is_space, with_front}

-- the first space is at the first place that has one, and not before a place behind some that have none
pub space_at : (bytes : List ℕ) (at : ℕ) → at ≤ position_or_len is_space bytes → is_space (get_or bytes at 0) ≡ true → position_or_len is_space bytes ≡ at
space_at bytes at low test =
    elim (cases_lt at (position_or_len is_space bytes)) [
      | inl before ↦ cc (sym test ∙ fails_before_first is_space bytes at 0 before)
      | inr reached ↦ omega arith
    ]

pub space_behind : (bytes : List ℕ) (at : ℕ) → at ≤ position_or_len is_space bytes → at < length bytes → is_space (get_or bytes at 0) ≡ false → at + 1 ≤ position_or_len is_space bytes
space_behind bytes at low h test =
    elim (cases_lt at (position_or_len is_space bytes)) [
      | inl before ↦ omega arith
      | inr reached ↦
          let here : position_or_len is_space bytes ≡ at = omega arith in
          let passes : is_space (get_or bytes at 0) ≡ true = rw here at (passes_at_first is_space bytes 0 (omega arith)) in
          cc (sym test ∙ passes)
    ]

pub front_on : {T F : Type 0} (front : List T) (x : T) (r : Result (List T) F) → with_front front (r >>= λ xs. Ok (x ∷ xs)) ≡ with_front (front ++ x ∷ []) r
front_on front x (Ok xs) = ap Ok (sym (append_assoc front (x ∷ []) xs))
front_on front x (Err e) = refl
