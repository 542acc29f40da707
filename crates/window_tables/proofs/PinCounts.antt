-- Counts of which each is changed, one after another.
use Rattle.std.proofs.Common.{◌≡◌, ◌∙◌, ℕ, ◌+◌, ◌-◌, ◌<◌, Bool, true, false, List, ◌++◌, length, map, take, refl, ap, sym, arith}
use Rattle.std.specs.Prelude.{nat_eq}
use Rattle.std.specs.List.{list_any}
use Rattle.std.proofs.Math.ListN.{get_or, set, drop}
use Rattle.std.proofs.lemmas.Grind.{get_or_default_zero}
use Rattle.std.proofs.lemmas.Bool.{eqb-false}
use Rattle.std.proofs.lemmas.List.{get_or-append_right, get_or-drop, length-map, length-take-le}
use Rattle.std.proofs.lemmas.List.Edits.{map_over_more}
use Rattle.std.proofs.lemmas.List.Folds.{list_any_at}

-- a count that isn't changed yet
pub same_at : (change : ℕ → ℕ) (ns ms : List ℕ) (i d : ℕ) → i < length ns → ms ≡ map change (take i ns) ++ drop i ns → get_or ms i d ≡ get_or ns i d
same_at change ns ms i d l e =
    let long : length (map change (take i ns)) ≡ i = length-map (take i ns) change ∙ length-take-le i ns (omega (arith, l)) in
    let at : i + (i - i) ≡ i = omega arith in
    ap (λ xs. get_or xs i d) e
    ∙ get_or-append_right (map change (take i ns)) (drop i ns) i i d long (omega arith)
    ∙ get_or-drop i ns (i - i) d
    ∙ ap (λ k. get_or ns k d) at

-- and one more
pub change_more : (change : ℕ → ℕ) (ns ms : List ℕ) (i : ℕ) → i < length ns → ms ≡ map change (take i ns) ++ drop i ns →
    set ms i (change (get_or ms i 0)) ≡ map change (take (i + 1) ns) ++ drop (i + 1) ns
change_more change ns ms i l e =
    let n = get_or ms i 0 in
    map_over_more change ns ms i n l e (same_at change ns ms i 0 l e ∙ sym (get_or_default_zero ns i n l) ∙ sym (same_at change ns ms i n l e))

-- a number that none of them is
pub differs_at : (number : ℕ) (ns : List ℕ) (i : ℕ) → i < length ns → list_any (nat_eq number) ns ≡ false → number ≡ get_or ns i 0 → ⊥
differs_at number ns i l e = eqb-false number (get_or ns i 0) (pick (nat_eq number (get_or ns i 0)) refl) where
  pick : (b : Bool) → nat_eq number (get_or ns i 0) ≡ b → nat_eq number (get_or ns i 0) ≡ false
  pick false f = f
  pick true f = absurd (differ (sym (list_any_at (nat_eq number) ns i 0 l f) ∙ e)) where
    differ : true ≡ false → ⊥
    differ g = cc
