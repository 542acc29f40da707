-- The first place of a list that passes a test.
use Rattle.std.proofs.Common.{◌≡◌, ℕ, ◌+◌, ◌<◌, ◌≤◌, Bool, true, false, List, length, get_or, sym, ◌∙◌, arith, inl, inr}
use Rattle.std.specs.List.{position_or_len}
use Rattle.std.proofs.lemmas.Bool.{cases_lt}
use Rattle.std.proofs.lemmas.List.Sums.{fails_before_first, passes_at_first}

module _ {X : Type 0} (p : X → Bool) (xs : List X) (at : ℕ) (d : X) (low : at ≤ position_or_len p xs) where
  -- a place that passes, behind some that don't, is the first
  pub found_at : p (get_or xs at d) ≡ true → position_or_len p xs ≡ at
  found_at test =
      elim (cases_lt at (position_or_len p xs)) [
        | inl before ↦ cc (sym test ∙ fails_before_first p xs at d before)
        | inr reached ↦ omega arith
      ]

  -- behind one that doesn't the first comes later
  pub found_behind : at < length xs → p (get_or xs at d) ≡ false → at + 1 ≤ position_or_len p xs
  found_behind within test =
      elim (cases_lt at (position_or_len p xs)) [
        | inl before ↦ omega arith
        | inr reached ↦
            let here : position_or_len p xs ≡ at = omega arith in
            let passes : p (get_or xs at d) ≡ true = rw here at (passes_at_first p xs d (omega arith)) in
            cc (sym test ∙ passes)
      ]
