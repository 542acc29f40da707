-- Fronts of a list: the list cut off behind a number of elements.
use Rattle.std.proofs.Common.{◌≡◌, ◌≤◌, ℕ, zero, suc, List, [], ◌∷◌, length, take, refl, ap, sym, subst, ◌∙◌, arith}
use Rattle.std.proofs.Math.Seq.{take-append_seam, take-length}
use Rattle.std.proofs.lemmas.List.{length-take}
use mathlib.Core.List.{IsPrefix}
use Rattle.watched_machine.specs.Reports.{StartsWith}

-- what is cut off twice is cut off at the smaller number
cut_twice : {X : Type 0} → (i j : ℕ) (xs : List X) → i ≤ j → take i (take j xs) ≡ take i xs
cut_twice zero j xs le = refl
cut_twice (suc i) zero xs le = absurd (omega (arith, le))
cut_twice (suc i) (suc j) [] le = refl
cut_twice (suc i) (suc j) (x ∷ xs) le = ap (λ rest. x ∷ rest) (cut_twice i j xs (omega (arith, le)))

module _ {X : Type 0} where
  -- as `logbook` says it: the front, and what follows
  pub front_of_longer : (front list : List X) → IsPrefix front list → StartsWith list front
  front_of_longer front list p = let P : List X → Type 0 = λ l. StartsWith l front in subst P p.1 (take-append_seam front p.0)

  pub front_of_itself : (list : List X) → StartsWith list list
  front_of_itself list = take-length list

  pub front_no_longer : (front list : List X) → StartsWith list front → length front ≤ length list
  front_no_longer front list h = omega (arith, ap length h, length-take (length front) list)

  -- a front of a front
  pub front_of_front : (first second list : List X) → StartsWith second first → StartsWith list second → StartsWith list first
  front_of_front first second list h k =
      sym (cut_twice (length first) (length second) list (front_no_longer first second h)) ∙ (ap (λ l. take (length first) l) k ∙ h)

  -- of two fronts the shorter is a front of the longer
  pub shorter_front : (first second list : List X) → StartsWith list first → StartsWith list second → length first ≤ length second → StartsWith second first
  shorter_front first second list h k le =
      ap (λ l. take (length first) l) (sym k) ∙ (cut_twice (length first) (length second) list le ∙ h)

  -- a front as long as the list is the list
  pub longest_front : (front list : List X) → StartsWith list front → length front ≡ length list → front ≡ list
  longest_front front list h e = sym h ∙ (ap (λ n. take n list) e ∙ take-length list)
