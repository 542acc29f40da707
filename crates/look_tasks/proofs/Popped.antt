-- The first of a list is taken away.
use Rattle.std.proofs.Common.{◌≡◌, ◌∙◌, ℕ, zero, suc, ◌-◌, ◌≤◌, true, cond, List, [], ◌∷◌, ◌++◌, length, take, drop, refl, ap, sym, arith}
use Rattle.std.specs.Prelude.{nat_le, slice_index_or}
use Rattle.std.proofs.lemmas.Bool.{le-leb}
use Rattle.std.proofs.lemmas.List.{take-append-le, length-take}
use Rattle.look_tasks.specs.declared.step.PartReturn.{PartReturn}
use Rattle.look_tasks.specs.Steps.{without_due}

-- what is taken once more by its own length is the same
take_again : (m : ℕ) (xs : List PartReturn) → take (length (take m xs)) xs ≡ take m xs
take_again zero xs = refl
take_again (suc m) [] = refl
take_again (suc m) (x ∷ xs) = ap (λ ys. x ∷ ys) (take_again m xs)

pub popped : (xs : List PartReturn) (n used now : ℕ) (d : PartReturn) → used ≡ length (take n xs) → (used ≡ 0 → ⊥) → (slice_index_or xs 0 d).due_ns ≤ now →
    take (used - 1) (drop 1 xs ++ take 1 xs) ≡ without_due (take n xs) now
popped xs zero used now d u some t = absurd (some u)
popped [] (suc n) used now d u some t = absurd (some u)
popped (x ∷ xs) (suc n) used now d u some t =
    let one : used - 1 ≡ length (take n xs) = omega (arith, u) in
    let within : length (take n xs) ≤ length xs = omega (arith, length-take n xs) in
    let due : nat_le x.due_ns now ≡ true = le-leb x.due_ns now t in
    ap (λ k. take k (xs ++ x ∷ [])) one ∙ take-append-le (length (take n xs)) xs (x ∷ []) within ∙ take_again n xs
    ∙ sym (ap (λ b. cond b (take n xs) (x ∷ take n xs)) due)
