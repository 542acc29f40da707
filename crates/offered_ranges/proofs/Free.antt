-- Numbers that no window has.
use Rattle.std.proofs.Common.{◌≡◌, ◌∙◌, ℕ, ◌+◌, ◌<◌, ◌≤◌, Bool, true, false, cond, not, ◌&&◌, ◌||◌, List, [], ◌∷◌, length, refl, ap, arith}
use Rattle.std.specs.Prelude.{nat_le, nat_lt}
use Rattle.std.specs.List.{list_any}
use Rattle.std.proofs.Math.ListN.{get_or}
use Rattle.std.proofs.lemmas.Bool.{le-leb, leb-true, leb-false, lt-ltb, ltb-true}
use Rattle.std.proofs.lemmas.List.Folds.{list_any_at}
use Rattle.std.proofs.lemmas.List.Sums.{sum_by-cons}
use Rattle.offered_ranges.specs.declared.numbers.Taken.{Taken}
use Rattle.offered_ranges.specs.Numbers.{IsFirst, IsTaken, end_of, fits, meets}
use Rattle.offered_ranges.specs.NumberLaws.{has, times, window_of}

abbrev one : Bool → ℕ
one b = cond b 1 0

one_most : (b : Bool) → one b ≤ 1
one_most true = omega arith
one_most false = omega arith

differ : {T : Type 0} {b : Bool} → b ≡ true → b ≡ false → T
differ {b = true} e f = cc
differ {b = false} e f = cc

both : (a b : Bool) → (a && b) ≡ true → (a ≡ true) × (b ≡ true)
both true true e = (refl, refl)
both true false e = cc
both false b e = cc

not_true : (b : Bool) → (b ≡ true → ⊥) → b ≡ false
not_true true f = absurd (f refl)
not_true false f = refl

not_of : (b : Bool) → not b ≡ true → b ≡ false
not_of false e = refl
not_of true e = cc

fails_first : (a b : Bool) → (a || b) ≡ false → (a ≡ false) × (b ≡ false)
fails_first false b e = (refl, e)
fails_first true b e = cc

abbrev pub no_window : Taken
no_window = record { base = 0; count = 0 }

-- what a window takes that has one of the numbers
pub taken_by : (from count place end : ℕ) (ts : List Taken) → place < length ts → meets from count (get_or ts place no_window) ≡ true →
    end ≡ end_of (get_or ts place no_window) → end < 8589934592 → IsTaken from count ts end
taken_by from count place end ts l e is within = record { more = more; within = within; each = each } where
  t : Taken
  t = get_or ts place no_window

  parts : (nat_lt from (end_of t) ≡ true) × (nat_lt t.base (from + count) ≡ true)
  parts = both (nat_lt from (end_of t)) (nat_lt t.base (from + count)) e

  more : from < end
  more = omega (arith, is, ltb-true from (end_of t) parts.0)

  each : (n : ℕ) → from ≤ n → n < end → list_any (meets n count) ts ≡ true
  each n low high =
      let below : nat_lt n (end_of t) ≡ true = lt-ltb n (end_of t) (omega (arith, is, high)) in
      let above : nat_lt t.base (n + count) ≡ true = lt-ltb t.base (n + count) (omega (arith, low, ltb-true t.base (from + count) parts.1)) in
      list_any_at (meets n count) ts place no_window l (ap (λ b. b && nat_lt t.base (n + count)) below ∙ above)

-- no number below one is free
abbrev pub NoneBelow : ℕ → ℕ → List Taken → Type 0
NoneBelow from count ts = (n : ℕ) → n < from → list_any (meets n count) ts ≡ true

pub none_below : (from count end : ℕ) (ts : List Taken) → NoneBelow from count ts → IsTaken from count ts end → NoneBelow end count ts
none_below from count end ts h t n l = pick (nat_le from n) refl where
  pick : (b : Bool) → nat_le from n ≡ b → list_any (meets n count) ts ≡ true
  pick true e = t.each n (leb-true from n e) l
  pick false e = h n (leb-false from n e)

pub not_free : (n count : ℕ) (ts : List Taken) → list_any (meets n count) ts ≡ true → fits n count ts ≡ false
not_free n count ts e = ap (λ b. not b && nat_le (n + count) 4294967295) e

pub too_high : (n count : ℕ) (ts : List Taken) → 4294967295 < n + count → fits n count ts ≡ false
too_high n count ts l = not_true (fits n count ts) (λ e. absurd (omega (arith, l, leb-true (n + count) 4294967295 (both (not (list_any (meets n count) ts)) (nat_le (n + count) 4294967295) e).1)))

-- where the search ends
pub is_first : (from count : ℕ) (ts : List Taken) → NoneBelow from count ts → list_any (meets from count) ts ≡ false → from + count ≤ 4294967295 →
    IsFirst count ts from
is_first from count ts h e l = record {
  fit = ap (λ b. not b && nat_le (from + count) 4294967295) e ∙ le-leb (from + count) 4294967295 l;
  first = λ lower m. not_free lower count ts (h lower m);
}

pub none_fits : (from count : ℕ) (ts : List Taken) → NoneBelow from count ts → 4294967295 < from + count → (n : ℕ) → fits n count ts ≡ false
none_fits from count ts h l n = pick (nat_le from n) refl where
  pick : (b : Bool) → nat_le from n ≡ b → fits n count ts ≡ false
  pick true e = too_high n count ts (omega (arith, l, leb-true from n e))
  pick false e = not_free n count ts (h n (leb-false from n e))

-- a window of which no number is among those has none of them
hasnt : (from count n : ℕ) (t : Taken) → has n (window_of from count) ≡ true → meets from count t ≡ false → has n t ≡ false
hasnt from count n t own e = not_true (has n t) (λ f. differ (met f) e) where
  met : has n t ≡ true → meets from count t ≡ true
  met f =
      let mine = both (nat_le from n) (nat_lt n (from + count)) own in
      let its = both (nat_le t.base n) (nat_lt n (end_of t)) f in
      let below : nat_lt from (end_of t) ≡ true = lt-ltb from (end_of t) (omega (arith, leb-true from n mine.0, ltb-true n (end_of t) its.1)) in
      let above : nat_lt t.base (from + count) ≡ true =
      lt-ltb t.base (from + count) (omega (arith, ltb-true n (from + count) mine.1, leb-true t.base n its.0)) in
      ap (λ b. b && nat_lt t.base (from + count)) below ∙ above

none_has : (from count n : ℕ) (ts : List Taken) → has n (window_of from count) ≡ true → list_any (meets from count) ts ≡ false → times n ts ≡ 0
none_has from count n [] own e = refl
none_has from count n (t ∷ ts) own e =
    let each = fails_first (meets from count t) (list_any (meets from count) ts) e in
    let none : one (has n t) ≡ 0 = ap (λ b. one b) (hasnt from count n t own each.0) in
    omega (arith, sum_by-cons (λ x. one (has n x)) t ts, none, none_has from count n ts own each.1)

pub none_shared : (count : ℕ) (ts : List Taken) (from : ℕ) → IsFirst count ts from → (n : ℕ) → has n (window_of from count) ≡ true → times n ts ≡ 0
none_shared count ts from is n own =
    none_has from count n ts own (not_of (list_any (meets from count) ts) (both (not (list_any (meets from count) ts)) (nat_le (from + count) 4294967295) is.fit).0)

pub stay_apart : (count : ℕ) (ts : List Taken) (from : ℕ) → IsFirst count ts from → ((n : ℕ) → times n ts ≤ 1) → (n : ℕ) →
    times n (window_of from count ∷ ts) ≤ 1
stay_apart count ts from is h n = pick (has n (window_of from count)) refl where
  whole : times n (window_of from count ∷ ts) ≡ one (has n (window_of from count)) + times n ts
  whole = sum_by-cons (λ x. one (has n x)) (window_of from count) ts

  pick : (b : Bool) → has n (window_of from count) ≡ b → times n (window_of from count ∷ ts) ≤ 1
  pick true e = omega (arith, whole, one_most (has n (window_of from count)), none_shared count ts from is n e)
  pick false e =
      let none : one (has n (window_of from count)) ≡ 0 = ap (λ b. one b) e in
      omega (arith, whole, none, h n)
