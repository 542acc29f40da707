-- One class more is counted.
use Rattle.std.proofs.Common.{◌≡◌, ℕ, ◌+◌, ◌-◌, ◌<◌, ◌≤◌, Bool, true, false, ◌||◌, cond, List, [], ◌∷◌, length, drop, get_or, set, eqb, ltb, refl, sym, ap, subst, ◌∙◌, ⊎_elim, arith}
use Rattle.std.specs.Prelude.{count_by, All}
use Rattle.std.specs.List.{list_any}
use Rattle.std.proofs.lemmas.Bool.{eq-eqb, ne_eqb, cases_eq}
use Rattle.std.proofs.lemmas.List.{drop_more, get_or-set_same, get_or-set_other}
use Rattle.std.proofs.lemmas.List.Elements.{All-head, All-tail}
use Rattle.std.proofs.lemmas.List.Sums.{count_by-le-length, sum_by-cons}
use Rattle.page_census.specs.Numbers.{copies, distinct, shared}

module _ {X : Type 0} (p : X → Bool) where
  none_step : (x : X) (xs : List X) (t : Bool) → cond t 1 0 + count_by p xs ≡ 0 → (count_by p xs ≡ 0 → list_any p xs ≡ false) → (t || list_any p xs) ≡ false
  none_step x xs true e rest = absurd (omega (arith, e))
  none_step x xs false e rest = rest (omega (arith, e))

  -- none passes where the count is 0, and else some
  pub any_none : (xs : List X) → count_by p xs ≡ 0 → list_any p xs ≡ false
  any_none [] e = refl
  any_none (x ∷ xs) e = none_step x xs (p x) (sym (sum_by-cons (λ (y : X). cond (p y) 1 0) x xs) ∙ e) (any_none xs)

  some_step : (x : X) (xs : List X) (t : Bool) → 0 < cond t 1 0 + count_by p xs → (0 < count_by p xs → list_any p xs ≡ true) → (t || list_any p xs) ≡ true
  some_step x xs true lt rest = refl
  some_step x xs false lt rest = rest (omega arith)

  pub any_some : (xs : List X) → 0 < count_by p xs → list_any p xs ≡ true
  any_some [] lt = absurd (omega arith)
  any_some (x ∷ xs) lt = let e = sum_by-cons (λ (y : X). cond (p y) 1 0) x xs in some_step x xs (p x) (omega (arith, e)) (any_some xs)

-- how many have a second copy is known by the counts of all classes
pub shared_right : (bound : ℕ) (counts classes : List ℕ) → ((k : ℕ) → k < bound → get_or counts k 0 ≡ copies eqb k classes) → (xs : List ℕ) → All (λ k. k < bound) xs
    → count_by (λ class. ltb 1 (get_or counts class 0)) xs ≡ shared eqb classes xs
shared_right bound counts classes right [] below = refl
shared_right bound counts classes right (x ∷ xs) below =
    sum_by-cons (λ (k : ℕ). cond (ltb 1 (get_or counts k 0)) 1 0) x xs
    ∙ rw (right x (All-head (λ k. k < bound) x xs below), shared_right bound counts classes right xs (All-tail (λ k. k < bound) x xs below)) (sym (sum_by-cons (λ (k : ℕ). cond (ltb 1 (copies eqb k classes)) 1 0) x xs))

-- what is counted of the classes from a place on
pub record Counts (bound : ℕ) (classes counts : List ℕ) (left different : ℕ) : Type 0 where
  pub right : (class : ℕ) → class < bound → get_or counts class 0 ≡ copies eqb class (drop left classes)
  pub different_is : different ≡ distinct eqb (drop left classes)

module _ (bound : ℕ) (classes counts : List ℕ) (left different before : ℕ) (so_far : Counts bound classes counts left different) (some : 0 < left) (within : left ≤ length classes) (len : length counts ≡ bound)
    (low : get_or classes (left - 1) 0 < bound) (is : before ≡ get_or counts (get_or classes (left - 1) 0) 0) where
  abbrev x : ℕ
  x = get_or classes (left - 1) 0

  abbrev rest : List ℕ
  rest = drop left classes

  apart : drop (left - 1) classes ≡ x ∷ rest
  apart = let back : left - 1 + 1 ≡ left = omega arith in drop_more classes (left - 1) 0 (omega arith) ∙ ap (λ (n : ℕ). x ∷ drop n classes) back

  counted : (k : ℕ) → copies eqb k (drop (left - 1) classes) ≡ cond (eqb k x) 1 0 + copies eqb k rest
  counted k = ap (copies eqb k) apart ∙ sum_by-cons (λ (y : ℕ). cond (eqb k y) 1 0) x rest

  pub fits : before ≤ length rest
  fits = let n = so_far.right x low in let most = count_by-le-length (eqb x) rest in omega (arith, is, n, most)

  pub right_more : (k : ℕ) → k < bound → get_or (set counts x (before + 1)) k 0 ≡ copies eqb k (drop (left - 1) classes)
  right_more k lt = ⊎_elim
      (λ e. let P : ℕ → Type 0 = λ k. get_or (set counts x (before + 1)) k 0 ≡ cond (eqb k x) 1 0 + copies eqb k rest in
      let here : get_or (set counts x (before + 1)) x 0 ≡ cond (eqb x x) 1 0 + copies eqb x rest =
      get_or-set_same counts x (before + 1) 0 (omega (arith, len, low)) ∙ rw (eq-eqb x x refl) (let n = so_far.right x low in omega (arith, is, n)) in
      subst P (sym e) here ∙ sym (counted k))
      (λ ne. get_or-set_other counts x k (before + 1) 0 ne ∙ so_far.right k lt ∙ (let zero : eqb k x ≡ false = ne_eqb k x ne in sym (counted k ∙ rw zero (omega arith))))
      (cases_eq k x)

  different_more : distinct eqb (drop (left - 1) classes) ≡ cond (list_any (eqb x) rest) 0 1 + distinct eqb rest
  different_more = ap (distinct eqb) apart

  pub new_one : before ≡ 0 → distinct eqb (drop (left - 1) classes) ≡ different + 1
  new_one e =
      let n = so_far.right x low in
      let none : list_any (eqb x) rest ≡ false = any_none (eqb x) rest (omega (arith, is, n, e)) in
      different_more ∙ rw none (omega (arith, so_far.different_is))

  pub old_one : (before ≡ 0 → ⊥) → distinct eqb (drop (left - 1) classes) ≡ different
  old_one ne =
      let n = so_far.right x low in
      let some : list_any (eqb x) rest ≡ true = any_some (eqb x) rest (omega (arith, is, n, ne)) in
      different_more ∙ rw some (omega (arith, so_far.different_is))
