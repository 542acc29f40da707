-- Sums over pages are sums over the classes that occur.
use Rattle.std.proofs.Common.{◌≡◌, ℕ, zero, suc, ◌+◌, ◌<◌, ◌≤◌, Bool, true, false, ◌&&◌, ◌||◌, cond, List, [], ◌∷◌, length, take, get_or, eqb, ltb, refl, sym, ap, subst, ◌∙◌, ⊎_elim, arith, add-one}
use Rattle.std.specs.Prelude.{All, count_by, filter, sum_by}
use Rattle.std.specs.List.{list_any}
use Rattle.std.proofs.lemmas.Bool.{cases_eq, eq-eqb, eqb-true, lt-ltb, ne_eqb}
use Rattle.std.proofs.lemmas.List.{take_all}
use Rattle.std.proofs.lemmas.List.Elements.{All-head, All-tail}
use Rattle.std.proofs.lemmas.List.Sums.{sum_by-cons, sum_by_more}
use Rattle.std.proofs.lemmas.Map.Views.{any-filter_same}
use Rattle.page_census.specs.Counted.{count_below, sum_below}
use Rattle.page_census.specs.Numbers.{copies, distinct}
use Rattle.page_census.proofs.Tallied.{any_none, any_some}

pub same_below : (f g : ℕ → ℕ) (n : ℕ) → ((k : ℕ) → k < n → f k ≡ g k) → sum_below f n ≡ sum_below g n
same_below f g zero e = refl
same_below f g (suc n) e = let rest = same_below f g n (λ k lt. e k (omega arith)) in let here = e n (omega arith) in omega (arith, rest, here)

pub both_below : (f g : ℕ → ℕ) (n : ℕ) → sum_below (λ k. f k + g k) n ≡ sum_below f n + sum_below g n
both_below f g zero = refl
both_below f g (suc n) = let rest = both_below f g n in omega (arith, rest)

none_below : (f : ℕ → ℕ) (n : ℕ) → ((k : ℕ) → k < n → f k ≡ 0) → sum_below f n ≡ 0
none_below f zero e = refl
none_below f (suc n) e = let rest = none_below f n (λ k lt. e k (omega arith)) in let here = e n (omega arith) in omega (arith, rest, here)

-- a sum of one value at one place
one_below : (x v n : ℕ) → x < n → sum_below (λ k. cond (eqb k x) v 0) n ≡ v
one_below x v zero lt = absurd (omega arith)
one_below x v (suc n) lt = ⊎_elim
    (λ same. let before : sum_below (λ k. cond (eqb k x) v 0) n ≡ 0 = none_below (λ k. cond (eqb k x) v 0) n (λ k below. rw (ne_eqb k x (λ e. omega (arith, e, same, below))) refl) in
    rw (eq-eqb n x same) (omega (arith, before)))
    (λ other. let before : sum_below (λ k. cond (eqb k x) v 0) n ≡ v = one_below x v n (omega (arith, lt, other)) in
    rw (ne_eqb n x other) (omega (arith, before)))
    (cases_eq n x)

-- one list element more
added_below : (f g : ℕ → ℕ) (x v n : ℕ) → x < n → ((k : ℕ) → f k ≡ cond (eqb k x) v 0 + g k) → sum_below f n ≡ v + sum_below g n
added_below f g x v n lt e =
    same_below f (λ k. cond (eqb k x) v 0 + g k) n (λ k below. e k) ∙ both_below (λ k. cond (eqb k x) v 0) g n ∙ ap (λ (m : ℕ). m + sum_below g n) (one_below x v n lt)

once : (t u : Bool) → cond (t || u) 1 0 ≡ cond t (cond u 0 1) 0 + cond u 1 0
once true true = refl
once true false = refl
once false true = refl
once false false = refl

-- different numbers are those that occur
pub distinct_below : (n : ℕ) (xs : List ℕ) → All (λ k. k < n) xs → distinct eqb xs ≡ sum_below (λ k. cond (list_any (eqb k) xs) 1 0) n
distinct_below n [] within = sym (none_below (λ k. 0) n (λ k lt. refl))
distinct_below n (x ∷ xs) within =
    let low : x < n = All-head (λ (k : ℕ). k < n) x xs within in
    let rest = distinct_below n xs (All-tail (λ (k : ℕ). k < n) x xs within) in
    let v : ℕ = cond (list_any (eqb x) xs) 0 1 in
    let more = added_below (λ k. cond (eqb k x || list_any (eqb k) xs) 1 0) (λ k. cond (list_any (eqb k) xs) 1 0) x v n low (λ k. ⊎_elim
    (λ same. subst (λ (j : ℕ). cond (eqb j x || list_any (eqb j) xs) 1 0 ≡ cond (eqb j x) v 0 + cond (list_any (eqb j) xs) 1 0) (sym same) (once_at (eqb x x) (list_any (eqb x) xs)))
    (λ other. rw (ne_eqb k x other) (omega arith))
    (cases_eq k x)) in
    ap (λ (m : ℕ). v + m) rest ∙ sym more
  where
    once_at : (t u : Bool) → cond (t || u) 1 0 ≡ cond t (cond u 0 1) 0 + cond u 1 0
    once_at t u = once t u

part_of_copies : (q : ℕ → Bool) (x k m : ℕ) (t : Bool) → eqb k x ≡ t → cond (q k) (cond t 1 0 + m) 0 ≡ cond t (cond (q x) 1 0) 0 + cond (q k) m 0
part_of_copies q x k m true e = rw (ap q (eqb-true k x e)) (there (q x))
  where
    there : (b : Bool) → cond b (1 + m) 0 ≡ cond b 1 0 + cond b m 0
    there true = refl
    there false = refl
part_of_copies q x k m false e = elsewhere (q k)
  where
    elsewhere : (b : Bool) → cond b (0 + m) 0 ≡ 0 + cond b m 0
    elsewhere true = refl
    elsewhere false = refl

-- what passes, by the numbers that pass
pub passing_below : (q : ℕ → Bool) (n : ℕ) (xs : List ℕ) → All (λ k. k < n) xs → count_by q xs ≡ sum_below (λ k. cond (q k) (copies eqb k xs) 0) n
passing_below q n [] within = sym (none_below (λ k. cond (q k) 0 0) n (λ k lt. neither (q k)))
  where
    neither : (b : Bool) → cond {A = ℕ} b 0 0 ≡ 0
    neither true = refl
    neither false = refl
passing_below q n (x ∷ xs) within =
    let low : x < n = All-head (λ (k : ℕ). k < n) x xs within in
    let rest = passing_below q n xs (All-tail (λ (k : ℕ). k < n) x xs within) in
    let more = added_below (λ k. cond (q k) (copies eqb k (x ∷ xs)) 0) (λ k. cond (q k) (copies eqb k xs) 0) x (cond (q x) 1 0) n low (λ k.
    ap (λ (m : ℕ). cond (q k) m 0) (sum_by-cons (λ (y : ℕ). cond (eqb k y) 1 0) x xs) ∙ part_of_copies q x k (copies eqb k xs) (eqb k x) refl) in
    sum_by-cons (λ (y : ℕ). cond (q y) 1 0) x xs ∙ ap (λ (m : ℕ). cond (q x) 1 0 + m) rest ∙ sym more

-- a number occurs where it has copies
pub occurs : (k : ℕ) (xs : List ℕ) → list_any (eqb k) xs ≡ ltb 0 (copies eqb k xs)
occurs k xs = ⊎_elim
    (λ none. any_none (eqb k) xs (sym none) ∙ ap (ltb 0) none)
    (λ some. let lt : 0 < copies eqb k xs = omega (arith, some) in any_some (eqb k) xs lt ∙ sym (lt-ltb 0 (copies eqb k xs) lt))
    (cases_eq 0 (copies eqb k xs))

-- a sum over a list by places
listed : (f : ℕ → ℕ) (xs : List ℕ) (n : ℕ) → n ≤ length xs → sum_by f (take n xs) ≡ sum_below (λ k. f (get_or xs k 0)) n
listed f xs zero le = refl
listed f xs (suc n) le =
    let rest = listed f xs n (omega arith) in
    let more = sum_by_more f xs n 0 (omega arith) in
    ap (λ (m : ℕ). sum_by f (take m xs)) (sym (add-one n)) ∙ more ∙ ap (λ (m : ℕ). m + f (get_or xs n 0)) rest

pub sum_by_places : (f : ℕ → ℕ) (xs : List ℕ) → sum_by f xs ≡ sum_below (λ k. f (get_or xs k 0)) (length xs)
sum_by_places f xs = ap (sum_by f) (sym (take_all (length xs) xs (omega arith))) ∙ listed f xs (length xs) (omega arith)

module _ (classes counts : List ℕ) (within : All (λ k. k < length counts) classes) (right : (k : ℕ) → k < length counts → get_or counts k 0 ≡ copies eqb k classes) where
  -- the classes that pass, by a list that distinguished the copies of each
  pub distinct_passing : (q : ℕ → Bool) → All (λ k. k < length counts) (filter q classes) → distinct eqb (filter q classes) ≡ count_below (λ k. q k && ltb 0 (get_or counts k 0)) (length counts)
  distinct_passing q low =
      distinct_below (length counts) (filter q classes) low ∙ same_below (λ k. cond (list_any (eqb k) (filter q classes)) 1 0) (λ k. cond (q k && ltb 0 (get_or counts k 0)) 1 0) (length counts) (λ k lt.
      ap (λ (b : Bool). cond b 1 0) (any-filter_same (eqb k) q (q k) (λ j e. ap q (sym (eqb-true k j e))) classes ∙ ap (λ (b : Bool). q k && b) (occurs k classes ∙ ap (ltb 0) (sym (right k lt)))))

  pub count_passing : (q : ℕ → Bool) → count_by q classes ≡ sum_below (λ k. cond (q k) (get_or counts k 0) 0) (length counts)
  count_passing q =
      passing_below q (length counts) classes within ∙ same_below (λ k. cond (q k) (copies eqb k classes) 0) (λ k. cond (q k) (get_or counts k 0) 0) (length counts) (λ k lt. ap (λ (m : ℕ). cond (q k) m 0) (sym (right k lt)))

  all_pass : (xs : List ℕ) → count_by (λ k. true) xs ≡ length xs
  all_pass [] = refl
  all_pass (x ∷ xs) = sum_by-cons (λ (k : ℕ). 1) x xs ∙ (let rest = all_pass xs in omega (arith, rest))

  -- all copies are all pages
  pub sum_copies : sum_by (λ n. n) counts ≡ length classes
  sum_copies = sum_by_places (λ n. n) counts ∙ sym (count_passing (λ k. true)) ∙ all_pass classes
