-- How often a page is in the ranges of a table.
use Rattle.std.proofs.Common.{◌≡◌, ◌∙◌, ℕ, ◌+◌, ◌-◌, ◌<◌, ◌≤◌, max, min, Bool, true, false, cond, not, ◌&&◌, ◌||◌, ◌⊎◌, inl, inr, ⊎_elim, List, [], ◌∷◌, ◌++◌, Some, None, refl, ap, sym, arith}
use Rattle.std.specs.Prelude.{nat_eq, nat_le, nat_lt, slice_get}
use Rattle.std.specs.List.{All, list_any, remove}
use Rattle.std.proofs.Math.ListN.{get_or}
use Rattle.std.proofs.lemmas.Bool.{ltb-true, ltb-false, leb-true, leb-false, lt-ltb}
use Rattle.std.proofs.lemmas.List.Elements.{All-head, All-tail}
use Rattle.std.proofs.lemmas.List.Sums.{sum_by-append, sum_by-cons, sum_by-remove}
use Rattle.std.proofs.lemmas.Option.{get_or_from_slice_get, slice_get_within}
use Rattle.offered_ranges.specs.declared.range.OfferedRange.{OfferedRange}
use Rattle.offered_ranges.specs.declared.piece.Piece.{Piece}
use Rattle.offered_ranges.specs.Pieces.{IsFirst, count_of, has, meets, piece_of, times}
use Rattle.offered_ranges.specs.Tables.{added, can_add, has_piece, part_of, taken_out}
use Rattle.offered_ranges.specs.Laws.{AreApart, is_in, is_nth, nth_times}

abbrev one : Bool → ℕ
one b = cond b 1 0

one_most : (b : Bool) → one b ≤ 1
one_most true = omega arith
one_most false = omega arith

differ : {T : Type 0} {b : Bool} → b ≡ true → b ≡ false → T
differ {b = true} e f = cc
differ {b = false} e f = cc

both : (a b : Bool) → (a && b) ≡ true → (a ≡ true) × (b ≡ true)
both true true e = (refl, refl)
both true false e = cc
both false b e = cc

-- a page lies between two others, or it doesn't
pub in_cases : (begin end p : ℕ) → ((is_in begin end p ≡ true) × ((begin ≤ p) × (p < end))) ⊎ ((is_in begin end p ≡ false) × ((p < begin) ⊎ (end ≤ p)))
in_cases begin end p = pick (nat_le begin p) (nat_lt p end) refl refl where
  pick : (a b : Bool) → nat_le begin p ≡ a → nat_lt p end ≡ b → (((nat_le begin p && nat_lt p end) ≡ true) × ((begin ≤ p) × (p < end))) ⊎ (((nat_le begin p && nat_lt p end) ≡ false) × ((p < begin) ⊎ (end ≤ p)))
  pick false b e f = inr (ap (λ t. t && nat_lt p end) e, inl (leb-false begin p e))
  pick true true e f = inl (ap (λ t. t && nat_lt p end) e ∙ f, (leb-true begin p e, ltb-true p end f))
  pick true false e f = inr (ap (λ t. t && nat_lt p end) e ∙ f, inr (ltb-false p end f))

-- of a range that meets no other, no page is in another
meets_at : (begin end p : ℕ) (r : OfferedRange) → begin ≤ p → p < end → has p r ≡ true → meets begin end r ≡ true
meets_at begin end p r l u h =
    let within = both (nat_le r.begin p) (nat_lt p r.end) h in
    let low : r.begin ≤ p = leb-true r.begin p within.0 in
    let high : p < r.end = ltb-true p r.end within.1 in
    lt-ltb (max r.begin begin) (min r.end end) (omega (arith, low, high))

no_more : (p : ℕ) (r : OfferedRange) (rs : List OfferedRange) → has p r ≡ false → times p rs ≡ 0 → times p (r ∷ rs) ≡ 0
no_more p r rs e i =
    let none : one (has p r) ≡ 0 = ap (λ b. one b) e in
    omega (arith, sum_by-cons (λ x. one (has p x)) r rs, none, i)

not_true : (b : Bool) → (b ≡ true → ⊥) → b ≡ false
not_true true f = absurd (f refl)
not_true false f = refl

fails_first : (a b : Bool) → (a || b) ≡ false → (a ≡ false) × (b ≡ false)
fails_first false b e = (refl, e)
fails_first true b e = cc

pub none_there : (begin end : ℕ) (rs : List OfferedRange) → list_any (meets begin end) rs ≡ false → (p : ℕ) → begin ≤ p → p < end → times p rs ≡ 0
none_there begin end [] e p l u = refl
none_there begin end (r ∷ rs) e p l u =
    let each = fails_first (meets begin end r) (list_any (meets begin end) rs) e in
    let hasnt : has p r ≡ false = not_true (has p r) (λ h. differ (meets_at begin end p r l u h) each.0) in
    no_more p r rs hasnt (none_there begin end rs each.1 p l u)

-- what a piece is, where its range meets what was looked for
meets_whole : (begin end place : ℕ) (r : OfferedRange) (q : Piece) → piece_of begin end place r ≡ Some q → meets begin end r ≡ true
meets_whole begin end place r q e = pick (meets begin end r) refl where
  pick : (b : Bool) → meets begin end r ≡ b → meets begin end r ≡ true
  pick true f = f
  pick false f = cc

starts : (begin end place : ℕ) (r : OfferedRange) (q : Piece) → piece_of begin end place r ≡ Some q → q.begin ≡ max r.begin begin
starts begin end place r q e = pick (meets begin end r) refl e where
  pick : (b : Bool) → meets begin end r ≡ b →
      cond b (Some (record { place = place; begin = max r.begin begin; end = min r.end end; window = r.window; first = max r.begin begin - r.base })) None ≡ Some q →
      q.begin ≡ max r.begin begin
  pick true f g = cc
  pick false f g = cc

later_hasnt : (begin end p : ℕ) (rs : List OfferedRange) (from : ℕ) → All (λ r. meets begin end r ≡ true → from ≤ max r.begin begin) rs →
    begin ≤ p → p < from → p < end → times p rs ≡ 0
later_hasnt begin end p [] from h l u w = refl
later_hasnt begin end p (r ∷ rs) from h l u w =
    let here : meets begin end r ≡ true → from ≤ max r.begin begin = All-head (λ x. meets begin end x ≡ true → from ≤ max x.begin begin) r rs h in
    let hasnt : has p r ≡ false = not_true (has p r) (λ e. too_soon e (here (meets_at begin end p r l w e))) in
    no_more p r rs hasnt (later_hasnt begin end p rs from (All-tail (λ x. meets begin end x ≡ true → from ≤ max x.begin begin) r rs h) l u w) where
      too_soon : has p r ≡ true → from ≤ max r.begin begin → ⊥
      too_soon e f =
          let low : r.begin ≤ p = leb-true r.begin p (both (nat_le r.begin p) (nat_lt p r.end) e).0 in
          absurd (omega (arith, low, f, l, u))

pub none_before : (begin end : ℕ) (rs : List OfferedRange) (q : Piece) → IsFirst begin end rs q → (p : ℕ) → begin ≤ p → p < q.begin → times p rs ≡ 0
none_before begin end rs q is p l u =
    let there : max is.range.begin begin < min is.range.end end =
    ltb-true (max is.range.begin begin) (min is.range.end end) (meets_whole begin end q.place is.range q is.whole) in
    let at : q.begin ≡ max is.range.begin begin = starts begin end q.place is.range q is.whole in
    later_hasnt begin end p rs q.begin is.soonest l u (omega (arith, there, at, u))

-- a page that is added
pub added_apart : (most count : ℕ) (rs : List OfferedRange) (begin end said : ℕ) → can_add most count rs begin end ≡ true → AreApart rs →
    AreApart (added rs begin end said)
added_apart most count rs begin end said may h = record { once = λ p. once p (in_cases begin end p) } where
  new : OfferedRange
  new = record { begin = begin; end = end; window = 0; base = begin; said = said }

  fails : list_any (meets begin end) rs ≡ false
  fails = not_none (list_any (meets begin end) rs) (both (nat_lt begin end && nat_lt count most) (not (list_any (meets begin end) rs)) may).1 where
    not_none : (b : Bool) → not b ≡ true → b ≡ false
    not_none false e = refl
    not_none true e = cc

  sums : (p : ℕ) → times p (added rs begin end said) ≡ times p rs + one (is_in begin end p)
  sums p = omega (arith, sum_by-append (λ x. one (has p x)) rs (new ∷ []), sum_by-cons (λ x. one (has p x)) new [])

  once : (p : ℕ) → ((is_in begin end p ≡ true) × ((begin ≤ p) × (p < end))) ⊎ ((is_in begin end p ≡ false) × ((p < begin) ⊎ (end ≤ p))) →
      times p (added rs begin end said) ≤ 1
  once p (inl y) =
      let none : times p rs ≡ 0 = none_there begin end rs fails p y.1.0 y.1.1 in
      omega (arith, sums p, none, one_most (is_in begin end p))
  once p (inr f) =
      let none : one (is_in begin end p) ≡ 0 = ap (λ b. one b) f.0 in
      omega (arith, sums p, none, h.once p)

-- What is left of a range has its pages, but for those that were taken out. `and`: what holds of the range beside.
parts_have : (low begin end high p : ℕ) (and : Bool) → low ≤ begin → begin < end → end ≤ high → is_in begin end p ≡ false →
    one (is_in low begin p && and) + one (is_in end high p && and) ≡ one (is_in low high p && and)
parts_have low begin end high p and l m h out = pick (in_cases low begin p) (in_cases end high p) (in_cases low high p) (in_cases begin end p) where
  Cases : ℕ → ℕ → Type 0
  Cases from to = ((is_in from to p ≡ true) × ((from ≤ p) × (p < to))) ⊎ ((is_in from to p ≡ false) × ((p < from) ⊎ (to ≤ p)))

  is : (a b c : Bool) → is_in low begin p ≡ a → is_in end high p ≡ b → is_in low high p ≡ c → one (a && and) + one (b && and) ≡ one (c && and) →
      one (is_in low begin p && and) + one (is_in end high p && and) ≡ one (is_in low high p && and)
  is a b c e f g s = omega (arith, s, ap (λ t. one (t && and)) e, ap (λ t. one (t && and)) f, ap (λ t. one (t && and)) g)

  pick : Cases low begin → Cases end high → Cases low high → Cases begin end →
      one (is_in low begin p && and) + one (is_in end high p && and) ≡ one (is_in low high p && and)
  pick x y z (inl i) = differ i.0 out
  pick (inl x) (inl y) z (inr o) = absurd (omega (arith, x.1.1, y.1.0))
  pick (inl x) (inr y) (inl z) (inr o) = is true false true x.0 y.0 z.0 (omega arith)
  pick (inl x) (inr y) (inr z) (inr o) = absurd (⊎_elim (λ a. omega (arith, a, x.1.0)) (λ a. omega (arith, a, x.1.1)) z.1)
  pick (inr x) (inl y) (inl z) (inr o) = is false true true x.0 y.0 z.0 (omega arith)
  pick (inr x) (inl y) (inr z) (inr o) = absurd (⊎_elim (λ a. omega (arith, a, y.1.0)) (λ a. omega (arith, a, y.1.1)) z.1)
  pick (inr x) (inr y) (inr z) (inr o) = is false false false x.0 y.0 z.0 refl
  pick (inr x) (inr y) (inl z) (inr o) =
      absurd (⊎_elim
      (λ a. omega (arith, a, z.1.0))
      (λ a. ⊎_elim (λ b. ⊎_elim (λ c. omega (arith, a, c)) (λ c. omega (arith, b, c)) o.1) (λ b. omega (arith, b, z.1.1)) y.1)
      x.1)

-- a part of a range has a page where it lies
part_counts : (p begin end : ℕ) (r : OfferedRange) (test : OfferedRange → Bool) (and : Bool) →
    ((b e : ℕ) → test (record r { begin = b; end = e }) ≡ (is_in b e p && and)) → count_of test (part_of r begin end) ≡ one (is_in begin end p && and)
part_counts p begin end r test and is = pick (nat_lt begin end) refl (in_cases begin end p) where
  pick : (t : Bool) → nat_lt begin end ≡ t →
      ((is_in begin end p ≡ true) × ((begin ≤ p) × (p < end))) ⊎ ((is_in begin end p ≡ false) × ((p < begin) ⊎ (end ≤ p))) →
      count_of test (cond t (record r { begin = begin; end = end } ∷ []) []) ≡ one (is_in begin end p && and)
  pick true e c =
      let its : one (test (record r { begin = begin; end = end })) ≡ one (is_in begin end p && and) = ap (λ b. one b) (is begin end) in
      omega (arith, sum_by-cons (λ x. one (test x)) (record r { begin = begin; end = end }) [], its)
  pick false e (inl i) = absurd (omega (arith, ltb-false begin end e, i.1.0, i.1.1))
  pick false e (inr i) = sym (ap (λ b. one (b && and)) i.0)

and_true : (b : Bool) → b ≡ (b && true)
and_true true = refl
and_true false = refl

-- what a piece is of its range
piece_facts : (begin end : ℕ) (r : OfferedRange) → has_piece begin end r ≡ true → (r.begin ≤ begin) × ((begin < end) × (end ≤ r.end))
piece_facts begin end r e =
    let outer = both (nat_le r.begin begin && nat_lt begin end) (nat_le end r.end) e in
    let inner = both (nat_le r.begin begin) (nat_lt begin end) outer.0 in
    (leb-true r.begin begin inner.0, (ltb-true begin end inner.1, leb-true end r.end outer.1))

-- how many pass a test once pages were taken out
taken_counts : (test : OfferedRange → Bool) (place begin end : ℕ) (r : OfferedRange) (rs : List OfferedRange) → slice_get rs place ≡ Some r →
    count_of test (taken_out place begin end (Some r) rs) + one (test r) ≡
    count_of test rs + (count_of test (part_of r r.begin begin) + count_of test (part_of r end r.end))
taken_counts test place begin end r rs at =
    let its : one (test (get_or rs place r)) ≡ one (test r) = ap (λ x. one (test x)) (get_or_from_slice_get rs place r r at) in
    omega (
      arith,
      sum_by-append (λ x. one (test x)) (remove rs place) (part_of r r.begin begin ++ part_of r end r.end),
      sum_by-append (λ x. one (test x)) (part_of r r.begin begin) (part_of r end r.end),
      sum_by-remove (λ x. one (test x)) rs place r (slice_get_within rs place r at),
      its,
    )

-- a page that wasn't taken out
taken_others : (test : OfferedRange → Bool) (and : Bool) (p place begin end : ℕ) (r : OfferedRange) (rs : List OfferedRange) → slice_get rs place ≡ Some r →
    has_piece begin end r ≡ true → ((b e : ℕ) → test (record r { begin = b; end = e }) ≡ (is_in b e p && and)) → is_in begin end p ≡ false →
    count_of test (taken_out place begin end (Some r) rs) ≡ count_of test rs
taken_others test and p place begin end r rs at whole is out =
    let facts = piece_facts begin end r whole in
    let own : one (test r) ≡ one (is_in r.begin r.end p && and) = ap (λ b. one b) (is r.begin r.end) in
    omega (
      arith,
      taken_counts test place begin end r rs at,
      part_counts p r.begin begin r test and is,
      part_counts p end r.end r test and is,
      parts_have r.begin begin end r.end p and facts.0 facts.1.0 facts.1.1 out,
      own,
    )

pub taken_keeps : (place begin end : ℕ) (r : OfferedRange) (rs : List OfferedRange) → slice_get rs place ≡ Some r → has_piece begin end r ≡ true →
    (p window n : ℕ) → is_in begin end p ≡ false → nth_times p window n (taken_out place begin end (Some r) rs) ≡ nth_times p window n rs
taken_keeps place begin end r rs at whole p window n out =
    taken_others (is_nth p window n) (nat_eq r.window window && nat_eq (r.base + n) p) p place begin end r rs at whole (λ b e. refl) out

pub taken_gone : (place begin end : ℕ) (r : OfferedRange) (rs : List OfferedRange) → slice_get rs place ≡ Some r → has_piece begin end r ≡ true → AreApart rs →
    (p : ℕ) → is_in begin end p ≡ true → times p (taken_out place begin end (Some r) rs) ≡ 0
taken_gone place begin end r rs at whole h p e = pick (in_cases begin end p) (in_cases r.begin r.end p) (in_cases r.begin begin p) (in_cases end r.end p) where
  facts : (r.begin ≤ begin) × ((begin < end) × (end ≤ r.end))
  facts = piece_facts begin end r whole

  Cases : ℕ → ℕ → Type 0
  Cases from to = ((is_in from to p ≡ true) × ((from ≤ p) × (p < to))) ⊎ ((is_in from to p ≡ false) × ((p < from) ⊎ (to ≤ p)))

  pick : Cases begin end → Cases r.begin r.end → Cases r.begin begin → Cases end r.end → times p (taken_out place begin end (Some r) rs) ≡ 0
  pick (inr i) x y z = differ e i.0
  pick (inl i) (inr x) y z = absurd (⊎_elim (λ a. omega (arith, a, i.1.0, facts.0)) (λ a. omega (arith, a, i.1.1, facts.1.1)) x.1)
  pick (inl i) (inl x) (inl y) z = absurd (omega (arith, i.1.0, y.1.1))
  pick (inl i) (inl x) (inr y) (inl z) = absurd (omega (arith, i.1.1, z.1.0))
  pick (inl i) (inl x) (inr y) (inr z) =
      let own : one (has p r) ≡ 1 = ap (λ b. one b) x.0 in
      let none_before : one (is_in r.begin begin p && true) ≡ 0 = ap (λ b. one (b && true)) y.0 in
      let none_behind : one (is_in end r.end p && true) ≡ 0 = ap (λ b. one (b && true)) z.0 in
      omega (
        arith,
        taken_counts (has p) place begin end r rs at,
        part_counts p r.begin begin r (has p) true (λ b t. and_true (is_in b t p)),
        part_counts p end r.end r (has p) true (λ b t. and_true (is_in b t p)),
        h.once p,
        own,
        none_before,
        none_behind,
      )

pub taken_apart : (place begin end : ℕ) (r : OfferedRange) (rs : List OfferedRange) → slice_get rs place ≡ Some r → has_piece begin end r ≡ true → AreApart rs →
    AreApart (taken_out place begin end (Some r) rs)
taken_apart place begin end r rs at whole h = record { once = λ p. once p (is_in begin end p) refl } where
  once : (p : ℕ) (b : Bool) → is_in begin end p ≡ b → times p (taken_out place begin end (Some r) rs) ≤ 1
  once p true e = omega (arith, taken_gone place begin end r rs at whole h p e)
  once p false e = omega (arith, taken_others (has p) true p place begin end r rs at whole (λ b t. and_true (is_in b t p)) e, h.once p)
