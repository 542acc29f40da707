-- The first place that passes, in a list with more behind it.
use Rattle.std.proofs.Common.{◌≡◌, ◌+◌, ◌<◌, Bool, List, [], ◌∷◌, ◌++◌, length, refl, arith, inl, inr}
use Rattle.std.specs.List.{position_or_len}
use Rattle.std.proofs.lemmas.Bool.{cases_Bool}

module _ {X : Type 0} (p : X → Bool) where
  pub position_within : (xs ys : List X) → position_or_len p xs < length xs → position_or_len p (xs ++ ys) ≡ position_or_len p xs
  position_within [] ys h = absurd (omega arith)
  position_within (x ∷ xs) ys h = elim (cases_Bool (p x)) [
    | inl passes ↦ rw passes refl
    | inr fails ↦ let later = rw fails at h in let more : position_or_len p xs < length xs = omega (arith, later) in rw (fails, position_within xs ys more) refl
  ]

  pub position_behind : (xs ys : List X) → position_or_len p xs ≡ length xs → position_or_len p (xs ++ ys) ≡ length xs + position_or_len p ys
  position_behind [] ys h = omega arith
  position_behind (x ∷ xs) ys h = elim (cases_Bool (p x)) [
    | inl passes ↦ let none = rw passes at h in absurd (omega (arith, none))
    | inr fails ↦ let later = rw fails at h in let more : position_or_len p xs ≡ length xs = omega (arith, later) in let behind = position_behind xs ys more in rw fails (omega (arith, behind))
  ]
