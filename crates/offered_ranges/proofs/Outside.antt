-- Pages that are in no range.
use Rattle.std.proofs.Common.{◌≡◌, ◌∙◌, ℕ, ◌+◌, ◌<◌, ◌≤◌, max, min, Bool, true, false, cond, not, ◌&&◌, ◌||◌, List, [], ◌∷◌, length, take, Some, refl, ap, subst, arith}
use Rattle.std.specs.Prelude.{nat_eq, nat_le, nat_lt, slice_get}
use Rattle.std.specs.List.{All, list_any, remove}
use Rattle.std.proofs.Math.ListN.{get_or}
use Rattle.std.proofs.lemmas.Bool.{eqb-true, eqb-false, le-leb, leb-true, lt-ltb, ltb-true, ltb-false}
use Rattle.std.proofs.lemmas.List.{take_all}
use Rattle.std.proofs.lemmas.List.Folds.{list_any_at}
use Rattle.std.proofs.lemmas.List.Elements.{All-head, All-more, All-nil, All-tail}
use Rattle.std.proofs.lemmas.List.Sums.{sum_by-cons, sum_by-remove}
use Rattle.std.proofs.lemmas.Option.{get_or_from_slice_get, slice_get_within}
use Rattle.offered_ranges.specs.declared.range.OfferedRange.{OfferedRange}
use Rattle.offered_ranges.specs.declared.bound.OfferedBounds.{OfferedBounds}
use Rattle.offered_ranges.specs.Bounds.{AreBounds, LiesIn}
use Rattle.offered_ranges.specs.Pieces.{has, times}
use Rattle.offered_ranges.specs.Tables.{is_all_left, is_of}
use Rattle.offered_ranges.specs.Laws.{is_in, is_nth, nth_times}
use Rattle.offered_ranges.proofs.Found.{no_range}

abbrev one : Bool → ℕ
one b = cond b 1 0

differ : {T : Type 0} {b : Bool} → b ≡ true → b ≡ false → T
differ {b = true} e f = cc
differ {b = false} e f = cc

both : (a b : Bool) → (a && b) ≡ true → (a ≡ true) × (b ≡ true)
both true true e = (refl, refl)
both true false e = cc
both false b e = cc

not_true : (b : Bool) → (b ≡ true → ⊥) → b ≡ false
not_true true f = absurd (f refl)
not_true false f = refl

fails_first : (a b : Bool) → (a || b) ≡ false → (a ≡ false) × (b ≡ false)
fails_first false b e = (refl, e)
fails_first true b e = cc

not_of : (b : Bool) → not b ≡ true → b ≡ false
not_of false e = refl
not_of true e = cc

-- what a loop knows of the bounds once it has seen the first n ranges
pub record BoundsSo (rs : List OfferedRange) (n : ℕ) (b : OfferedBounds) : Type 0 where
  pub within : All (LiesIn b) (take n rs)
  pub lowest : list_any (λ r. nat_eq r.begin b.begin) rs ≡ true
  pub highest : list_any (λ r. nat_eq r.end b.end) rs ≡ true

same_number : (n : ℕ) → nat_eq n n ≡ true
same_number n = pick (nat_eq n n) refl where
  pick : (b : Bool) → nat_eq n n ≡ b → nat_eq n n ≡ true
  pick true e = e
  pick false e = absurd (eqb-false n n e refl)

pub bounds_begin : (rs : List OfferedRange) (n : ℕ) → n < length rs →
    BoundsSo rs 0 (record { begin = (get_or rs n no_range).begin; end = (get_or rs n no_range).end })
bounds_begin rs n l = record {
  within = nothing rs;
  lowest = list_any_at (λ r. nat_eq r.begin (get_or rs n no_range).begin) rs n no_range l (same_number (get_or rs n no_range).begin);
  highest = list_any_at (λ r. nat_eq r.end (get_or rs n no_range).end) rs n no_range l (same_number (get_or rs n no_range).end);
} where
  b : OfferedBounds
  b = record { begin = (get_or rs n no_range).begin; end = (get_or rs n no_range).end }

  nothing : (xs : List OfferedRange) → All (LiesIn b) (take 0 xs)
  nothing [] = All-nil (LiesIn b)
  nothing (x ∷ xs) = All-nil (LiesIn b)

-- the next range
lowest_more : (rs : List OfferedRange) (n low : ℕ) → n < length rs → list_any (λ r. nat_eq r.begin low) rs ≡ true →
    list_any (λ r. nat_eq r.begin (min low (get_or rs n no_range).begin)) rs ≡ true
lowest_more rs n low l e = pick (nat_lt low (get_or rs n no_range).begin) refl where
  at : ℕ
  at = (get_or rs n no_range).begin

  pick : (b : Bool) → nat_lt low at ≡ b → list_any (λ r. nat_eq r.begin (min low at)) rs ≡ true
  pick true f =
      let is : low ≡ min low at = omega (arith, ltb-true low at f) in
      subst (λ k. list_any (λ r. nat_eq r.begin k) rs ≡ true) is e
  pick false f =
      let is : at ≡ min low at = omega (arith, ltb-false low at f) in
      subst (λ k. list_any (λ r. nat_eq r.begin k) rs ≡ true) is (list_any_at (λ r. nat_eq r.begin at) rs n no_range l (same_number at))

highest_more : (rs : List OfferedRange) (n high : ℕ) → n < length rs → list_any (λ r. nat_eq r.end high) rs ≡ true →
    list_any (λ r. nat_eq r.end (max high (get_or rs n no_range).end)) rs ≡ true
highest_more rs n high l e = pick (nat_lt high (get_or rs n no_range).end) refl where
  at : ℕ
  at = (get_or rs n no_range).end

  pick : (b : Bool) → nat_lt high at ≡ b → list_any (λ r. nat_eq r.end (max high at)) rs ≡ true
  pick false f =
      let is : high ≡ max high at = omega (arith, ltb-false high at f) in
      subst (λ k. list_any (λ r. nat_eq r.end k) rs ≡ true) is e
  pick true f =
      let is : at ≡ max high at = omega (arith, ltb-true high at f) in
      subst (λ k. list_any (λ r. nat_eq r.end k) rs ≡ true) is (list_any_at (λ r. nat_eq r.end at) rs n no_range l (same_number at))

pub bounds_more : (rs : List OfferedRange) (n : ℕ) (b : OfferedBounds) → n < length rs → BoundsSo rs n b →
    BoundsSo rs (n + 1) (record { begin = min b.begin (get_or rs n no_range).begin; end = max b.end (get_or rs n no_range).end })
bounds_more rs n b l h = record { within = within; lowest = lowest_more rs n b.begin l h.lowest; highest = highest_more rs n b.end l h.highest } where
  more : OfferedBounds
  more = record { begin = min b.begin (get_or rs n no_range).begin; end = max b.end (get_or rs n no_range).end }

  wider : (r : OfferedRange) → LiesIn b r → LiesIn more r
  wider r i = (omega (arith, i.0), omega (arith, i.1))

  within : All (LiesIn more) (take (n + 1) rs)
  within = All-more (LiesIn more) rs n no_range l (λ k d m. wider (get_or (take n rs) k d) (h.within k d m)) (omega arith, omega arith)

pub bounds_whole : (rs : List OfferedRange) (n : ℕ) (b : OfferedBounds) → length rs ≤ n → 1 ≤ length rs → BoundsSo rs n b → AreBounds rs b
bounds_whole rs n b l some h = record {
  within = subst (λ xs. All (LiesIn b) xs) (take_all n rs l) h.within;
  lowest = λ i. h.lowest;
  highest = λ i. h.highest;
  none = λ e. absurd (omega (arith, e, some));
}

-- what lies outside of a range that the bounds have
hasnt : (b : OfferedBounds) (p : ℕ) (r : OfferedRange) → LiesIn b r → is_in b.begin b.end p ≡ false → has p r ≡ false
hasnt b p r i e = not_true (has p r) (λ f. differ (inside f) e) where
  inside : has p r ≡ true → is_in b.begin b.end p ≡ true
  inside f =
      let parts = both (nat_le r.begin p) (nat_lt p r.end) f in
      let low : nat_le b.begin p ≡ true = le-leb b.begin p (omega (arith, i.0, leb-true r.begin p parts.0)) in
      let high : nat_lt p b.end ≡ true = lt-ltb p b.end (omega (arith, i.1, ltb-true p r.end parts.1)) in
      ap (λ t. t && nat_lt p b.end) low ∙ high

none_in : (rs : List OfferedRange) (b : OfferedBounds) → All (LiesIn b) rs → (p : ℕ) → is_in b.begin b.end p ≡ false → times p rs ≡ 0
none_in [] b h p e = refl
none_in (r ∷ rs) b h p e =
    let none : one (has p r) ≡ 0 = ap (λ t. one t) (hasnt b p r (All-head (LiesIn b) r rs h) e) in
    omega (arith, sum_by-cons (λ x. one (has p x)) r rs, none, none_in rs b (All-tail (LiesIn b) r rs h) p e)

pub none_outside : (rs : List OfferedRange) (b : OfferedBounds) → AreBounds rs b → (p : ℕ) → is_in b.begin b.end p ≡ false → times p rs ≡ 0
none_outside rs b is p e = none_in rs b is.within p e

-- no range of another window has a page of this one
none_of : (p window n : ℕ) (rs : List OfferedRange) → list_any (is_of window) rs ≡ false → nth_times p window n rs ≡ 0
none_of p window n [] e = refl
none_of p window n (r ∷ rs) e =
    let each = fails_first (is_of window r) (list_any (is_of window) rs) e in
    let none : one (is_nth p window n r) ≡ 0 = ap (λ t. one t) (not_true (is_nth p window n r) (λ f. differ (its f) each.0)) in
    omega (arith, sum_by-cons (λ x. one (is_nth p window n x)) r rs, none, none_of p window n rs each.1) where
      its : is_nth p window n r ≡ true → is_of window r ≡ true
      its f = (both (nat_eq r.window window) (nat_eq (r.base + n) p) (both (has p r) (nat_eq r.window window && nat_eq (r.base + n) p) f).1).0

pub none_elsewhere : (place begin end : ℕ) (r : OfferedRange) (rs : List OfferedRange) → slice_get rs place ≡ Some r →
    is_all_left place begin end (Some r) rs ≡ true → (p n : ℕ) → is_in begin end p ≡ false → nth_times p r.window n rs ≡ 0
none_elsewhere place begin end r rs at whole p n out =
    let first = both (nat_eq r.begin begin) (nat_eq r.end end && not (list_any (is_of r.window) (remove rs place))) whole in
    let rest = both (nat_eq r.end end) (not (list_any (is_of r.window) (remove rs place))) first.1 in
    let same_begin : r.begin ≡ begin = eqb-true r.begin begin first.0 in
    let same_end : r.end ≡ end = eqb-true r.end end rest.0 in
    let own : is_in r.begin r.end p ≡ false = ap (λ k. is_in k r.end p) same_begin ∙ ap (λ k. is_in begin k p) same_end ∙ out in
    let none : one (is_nth p r.window n r) ≡ 0 = ap (λ t. one (t && (nat_eq r.window r.window && nat_eq (r.base + n) p))) own in
    let its : one (is_nth p r.window n (get_or rs place r)) ≡ one (is_nth p r.window n r) =
    ap (λ x. one (is_nth p r.window n x)) (get_or_from_slice_get rs place r r at) in
    omega (
      arith,
      none,
      its,
      sum_by-remove (λ x. one (is_nth p r.window n x)) rs place r (slice_get_within rs place r at),
      none_of p r.window n (remove rs place) (not_of (list_any (is_of r.window) (remove rs place)) rest.1),
    )
