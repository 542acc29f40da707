-- Sums over digests are what is counted of a list of digests.
use Rattle.std.proofs.Common.{◌≡◌, ℕ, zero, suc, ◌+◌, ◌-◌, ◌<◌, ◌≤◌, min, Bool, true, false, ◌&&◌, cond, List, [], ◌∷◌, length, eqb, ltb, refl, ap, sym, ◌∙◌, arith}
use Rattle.std.specs.Prelude.{All, count_by, filter}
use Rattle.std.specs.List.{list_any}
use Rattle.std.proofs.lemmas.Bool.{eqb-true, lt-ltb}
use Rattle.std.proofs.lemmas.List.Elements.{All-filter}
use Rattle.std.proofs.lemmas.List.Sums.{sum_by-cons}
use Rattle.std.proofs.lemmas.Map.Views.{any-filter_same}
use Rattle.page_census.specs.Counted as census
use Rattle.page_census.specs.Numbers.{copies, distinct}
use Rattle.page_census.proofs.Summed.{distinct_below, occurs, passing_below, same_below}
use Rattle.fleet_census.specs.Amounts.{amount_below, estimate, sum_below}

is_sum : (f : ℕ → ℕ) (n : ℕ) → sum_below f n ≡ census.sum_below f n
unfolding sum_below
is_sum f zero = refl
is_sum f (suc n) = ap (λ (m : ℕ). m + f n) (is_sum f n)

pub same_sum : (f g : ℕ → ℕ) (n : ℕ) → ((k : ℕ) → f k ≡ g k) → sum_below f n ≡ sum_below g n
same_sum f g n each = is_sum f n ∙ same_below f g n (λ k lt. each k) ∙ sym (is_sum g n)

pub both_sums : (f g : ℕ → ℕ) (n : ℕ) → sum_below (λ k. f k + g k) n ≡ sum_below f n + sum_below g n
unfolding sum_below
both_sums f g zero = refl
both_sums f g (suc n) = let rest = both_sums f g n in omega (arith, rest)

-- what is zeros and what isn't is all
parts : (z : Bool) (x : ℕ) → cond z x 0 + cond z 0 x ≡ x
parts true x = omega arith
parts false x = omega arith

pub estimate_is : (z : ℕ → Bool) (x : ℕ → ℕ) (n : ℕ) → estimate (amount_below z x n) 1 ≡ sum_below x n
estimate_is z x n =
    let both = both_sums (λ k. cond (z k) (x k) 0) (λ k. cond (z k) 0 (x k)) n in
    let all = same_sum (λ k. cond (z k) (x k) 0 + cond (z k) 0 (x k)) x n (λ k. parts (z k) (x k)) in
    omega (arith, both, all)

pub no_sum : (n : ℕ) → sum_below (λ k. 0) n ≡ 0
unfolding sum_below
no_sum zero = refl
no_sum (suc n) = omega (arith, no_sum n)

-- of each number one less, where there is any
pub less_one : (f : ℕ → ℕ) (n : ℕ) → sum_below (λ k. f k - 1) n + sum_below (λ k. min (f k) 1) n ≡ sum_below f n
less_one f n = sym (both_sums (λ k. f k - 1) (λ k. min (f k) 1) n) ∙ same_sum (λ k. f k - 1 + min (f k) 1) f n (λ k. omega arith)

pub one_if : (m : ℕ) → min m 1 ≡ cond (ltb 0 m) 1 0
one_if zero = refl
one_if (suc m) = rw (lt-ltb 0 (suc m) (omega arith)) (omega arith)

some_if : (q o : Bool) → (q ≡ true → o ≡ true) → cond {A = ℕ} q 1 0 ≡ cond (q && o) 1 0
some_if true o some = rw (some refl) refl
some_if false o some = refl

module _ (xs : List ℕ) (n : ℕ) (low : All (λ k. k < n) xs) where
  -- what passes
  pub passing : (q : ℕ → Bool) → sum_below (λ k. cond (q k) (copies eqb k xs) 0) n ≡ count_by q xs
  passing q = is_sum (λ k. cond (q k) (copies eqb k xs) 0) n ∙ sym (passing_below q n xs low)

  all_pass : (ys : List ℕ) → count_by (λ k. true) ys ≡ length ys
  all_pass [] = refl
  all_pass (y ∷ ys) = sum_by-cons (λ (k : ℕ). 1) y ys ∙ (let rest = all_pass ys in omega (arith, rest))

  pub all_counted : sum_below (λ k. copies eqb k xs) n ≡ length xs
  all_counted = passing (λ k. true) ∙ all_pass xs

  pub once_counted : sum_below (λ k. min (copies eqb k xs) 1) n ≡ distinct eqb xs
  once_counted =
      same_sum (λ k. min (copies eqb k xs) 1) (λ k. cond (list_any (eqb k) xs) 1 0) n (λ k. one_if (copies eqb k xs) ∙ ap (λ (b : Bool). cond b 1 0) (sym (occurs k xs)))
      ∙ is_sum (λ k. cond (list_any (eqb k) xs) 1 0) n
      ∙ sym (distinct_below n xs low)

  pub but_one_counted : sum_below (λ k. copies eqb k xs - 1) n ≡ length xs - distinct eqb xs
  but_one_counted = let whole = less_one (λ k. copies eqb k xs) n in omega (arith, whole, once_counted, all_counted)

  pub distinct_few : distinct eqb xs ≤ length xs
  distinct_few = let whole = less_one (λ k. copies eqb k xs) n in omega (arith, whole, once_counted, all_counted)

  -- what passes counts once
  pub once_passing : (q : ℕ → Bool) → ((k : ℕ) → q k ≡ true → ltb 0 (copies eqb k xs) ≡ true) → sum_below (λ k. cond (q k) 1 0) n ≡ distinct eqb (filter q xs)
  once_passing q some =
      same_sum (λ k. cond (q k) 1 0) (λ k. cond (list_any (eqb k) (filter q xs)) 1 0) n (λ k.
      some_if (q k) (ltb 0 (copies eqb k xs)) (some k) ∙ ap (λ (b : Bool). cond b 1 0) (
      ap (λ (b : Bool). q k && b) (sym (occurs k xs)) ∙ sym (any-filter_same (eqb k) q (q k) (λ j e. ap q (sym (eqb-true k j e))) xs)))
      ∙ is_sum (λ k. cond (list_any (eqb k) (filter q xs)) 1 0) n
      ∙ sym (distinct_below n (filter q xs) (All-filter q (λ (k : ℕ). k < n) xs low))
