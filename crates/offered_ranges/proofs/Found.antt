-- The first piece of the ranges that a search has seen.
use Rattle.std.proofs.Common.{◌≡◌, ◌∙◌, ℕ, ◌+◌, ◌-◌, ◌≤◌, max, min, Bool, true, false, cond, ◌||◌, nat_lt, List, [], ◌∷◌, ◌++◌, length, take, Option, Some, None, is_some, IfSome, refl, ap, sym, subst, arith}
use Rattle.std.specs.Prelude.{slice_get}
use Rattle.std.specs.List.{All, list_any}
use Rattle.std.proofs.lemmas.Bool.{ltb-true, ltb-false}
use Rattle.std.proofs.lemmas.List.{take_more, take_all}
use Rattle.std.proofs.lemmas.List.Folds.{list_any-append}
use Rattle.std.proofs.lemmas.List.Elements.{All-nil, All-cons, All-more}
use Rattle.std.proofs.lemmas.Option.{get_or_from_slice_get, slice_get_within}
use Rattle.offered_ranges.specs.declared.range.OfferedRange.{OfferedRange}
use Rattle.offered_ranges.specs.declared.piece.Piece.{Piece}
use Rattle.offered_ranges.specs.Pieces.{IsFirst, meets, piece_of, sooner}

-- no piece of a range begins sooner
abbrev pub LaterThan : ℕ → ℕ → ℕ → OfferedRange → Type 0
LaterThan begin end from r = meets begin end r ≡ true → from ≤ max r.begin begin

-- a piece of a range of the table, and none of the first n begins sooner
pub record IsBest (begin end : ℕ) (rs : List OfferedRange) (n : ℕ) (q : Piece) : Type 0 where
  pub range : OfferedRange
  pub at : slice_get rs q.place ≡ Some range
  pub whole : piece_of begin end q.place range ≡ Some q
  pub soonest : All (LaterThan begin end q.begin) (take n rs)

-- what a search knows once it has seen the first n
pub record BestSo (begin end : ℕ) (rs : List OfferedRange) (n : ℕ) (found : Option Piece) : Type 0 where
  pub some : is_some found ≡ list_any (meets begin end) (take n rs)
  pub first : IfSome found (λ q. IsBest begin end rs n q)

pub any_more : (test : OfferedRange → Bool) (rs : List OfferedRange) (n : ℕ) (r : OfferedRange) → slice_get rs n ≡ Some r →
    list_any test (take (n + 1) rs) ≡ (list_any test (take n rs) || test r)
any_more test rs n r e =
    let one : list_any test (r ∷ []) ≡ test r = or_false (test r) in
    ap (λ xs. list_any test xs) (take_more rs n r (slice_get_within rs n r e) ∙ ap (λ x. take n rs ++ x ∷ []) (get_or_from_slice_get rs n r r e))
    ∙ list_any-append test (take n rs) (r ∷ [])
    ∙ ap (λ b. list_any test (take n rs) || b) one where
      or_false : (b : Bool) → (b || false) ≡ b
      or_false true = refl
      or_false false = refl

all_more : (P : OfferedRange → Type 0) (rs : List OfferedRange) (n : ℕ) (r : OfferedRange) → slice_get rs n ≡ Some r → All P (take n rs) → P r →
    All P (take (n + 1) rs)
all_more P rs n r e h p = All-more P rs n r (slice_get_within rs n r e) h (subst P (sym (get_or_from_slice_get rs n r r e)) p)

-- what no range of a list passes, each one of it fails
none_at : (test : OfferedRange → Bool) (rs : List OfferedRange) → list_any test rs ≡ false → All (λ r. test r ≡ false) rs
none_at test [] e = All-nil (λ r. test r ≡ false)
none_at test (r ∷ rs) e = All-cons (λ x. test x ≡ false) r rs (first (test r) (list_any test rs) e) (none_at test rs (later (test r) (list_any test rs) e)) where
  first : (a b : Bool) → (a || b) ≡ false → a ≡ false
  first false b f = refl
  first true b f = cc

  later : (a b : Bool) → (a || b) ≡ false → b ≡ false
  later false b f = f
  later true b f = cc

pub best_begins : (begin end : ℕ) (rs : List OfferedRange) → BestSo begin end rs 0 None
best_begins begin end rs = record { some = sym (nothing rs); first = tt } where
  nothing : (xs : List OfferedRange) → list_any (meets begin end) (take 0 xs) ≡ false
  nothing [] = refl
  nothing (x ∷ xs) = refl

-- the next range has no piece
passed : (begin end : ℕ) (rs : List OfferedRange) (n : ℕ) (r : OfferedRange) (found : Option Piece) → slice_get rs n ≡ Some r → meets begin end r ≡ false →
    BestSo begin end rs n found → BestSo begin end rs (n + 1) found
passed begin end rs n r found at fails h = record {
  some = h.some ∙ sym (any_more (meets begin end) rs n r at ∙ ap (λ b. list_any (meets begin end) (take n rs) || b) fails ∙ or_false (list_any (meets begin end) (take n rs)));
  first = kept found h.first;
} where
  or_false : (b : Bool) → (b || false) ≡ b
  or_false true = refl
  or_false false = refl

  vacuous : (q : Piece) → LaterThan begin end q.begin r
  vacuous q is = absurd (differ (meets begin end r) is fails) where
    differ : (b : Bool) → b ≡ true → b ≡ false → ⊥
    differ true e f = cc
    differ false e f = cc

  kept : (f : Option Piece) → IfSome f (λ q. IsBest begin end rs n q) → IfSome f (λ q. IsBest begin end rs (n + 1) q)
  kept None i = tt
  kept (Some q) i = record { range = i.range; at = i.at; whole = i.whole; soonest = all_more (LaterThan begin end q.begin) rs n r at i.soonest (vacuous q) }

-- the next range has one
met : (begin end : ℕ) (rs : List OfferedRange) (n : ℕ) (r : OfferedRange) (s : Piece) (found : Option Piece) → slice_get rs n ≡ Some r →
    meets begin end r ≡ true → s.place ≡ n → s.begin ≡ max r.begin begin → piece_of begin end n r ≡ Some s → BestSo begin end rs n found →
    BestSo begin end rs (n + 1) (sooner found (Some s))
met begin end rs n r s found at meant place from whole h = record { some = some found h.some; first = first found h.some h.first } where
  any : list_any (meets begin end) (take (n + 1) rs) ≡ true
  any = any_more (meets begin end) rs n r at ∙ ap (λ b. list_any (meets begin end) (take n rs) || b) meant ∙ or_true (list_any (meets begin end) (take n rs)) where
    or_true : (b : Bool) → (b || true) ≡ true
    or_true true = refl
    or_true false = refl

  some : (f : Option Piece) → is_some f ≡ list_any (meets begin end) (take n rs) → is_some (sooner f (Some s)) ≡ list_any (meets begin end) (take (n + 1) rs)
  some None e = sym any
  some (Some q) e = sym any

  its : slice_get rs s.place ≡ Some r
  its = subst (λ k. slice_get rs k ≡ Some r) (sym place) at

  is_its : piece_of begin end s.place r ≡ Some s
  is_its = subst (λ k. piece_of begin end k r ≡ Some s) (sym place) whole

  own : LaterThan begin end s.begin r
  own e = omega (arith, from)

  takes : All (LaterThan begin end s.begin) (take n rs) → IsBest begin end rs (n + 1) s
  takes all = record { range = r; at = its; whole = is_its; soonest = all_more (LaterThan begin end s.begin) rs n r at all own }

  alone : list_any (meets begin end) (take n rs) ≡ false → All (LaterThan begin end s.begin) (take n rs)
  alone none k d lt e = absurd (differ (none_at (meets begin end) (take n rs) none k d lt) e) where
    differ : {b : Bool} → b ≡ false → b ≡ true → ⊥
    differ {b = true} f g = cc
    differ {b = false} f g = cc

  choose : (q : Piece) (t : Bool) → nat_lt s.begin q.begin ≡ t → IsBest begin end rs n q → IsBest begin end rs (n + 1) (cond t s q)
  choose q true e i = takes (λ k d lt m. omega (arith, i.soonest k d lt m, ltb-true s.begin q.begin e))
  choose q false e i = record {
    range = i.range;
    at = i.at;
    whole = i.whole;
    soonest = all_more (LaterThan begin end q.begin) rs n r at i.soonest (λ m. omega (arith, from, ltb-false s.begin q.begin e));
  }

  first : (f : Option Piece) → is_some f ≡ list_any (meets begin end) (take n rs) → IfSome f (λ q. IsBest begin end rs n q) →
      IfSome (sooner f (Some s)) (λ q. IsBest begin end rs (n + 1) q)
  first None e i = takes (alone (sym e))
  first (Some q) e i = choose q (nat_lt s.begin q.begin) refl i

pub best_more : (begin end : ℕ) (rs : List OfferedRange) (n : ℕ) (r : OfferedRange) (found : Option Piece) → slice_get rs n ≡ Some r →
    BestSo begin end rs n found → BestSo begin end rs (n + 1) (sooner found (piece_of begin end n r))
best_more begin end rs n r found at h = pick (meets begin end r) refl where
  s : Piece
  s = record { place = n; begin = max r.begin begin; end = min r.end end; window = r.window; first = max r.begin begin - r.base }

  is : (b : Bool) → meets begin end r ≡ b → piece_of begin end n r ≡ cond b (Some s) None
  is b e = ap (λ t. cond t (Some s) None) e

  pick : (b : Bool) → meets begin end r ≡ b → BestSo begin end rs (n + 1) (sooner found (piece_of begin end n r))
  pick true e = subst (λ f. BestSo begin end rs (n + 1) (sooner found f)) (sym (is true e)) (met begin end rs n r s found at e refl refl (is true e) h)
  pick false e = subst (λ f. BestSo begin end rs (n + 1) (sooner found f)) (sym (is false e)) (none found (passed begin end rs n r found at e h)) where
    none : (f : Option Piece) → BestSo begin end rs (n + 1) f → BestSo begin end rs (n + 1) (sooner f None)
    none None i = i
    none (Some q) i = i

-- what stands for a range that isn't there
abbrev pub no_range : OfferedRange
no_range = record { begin = 0; end = 0; window = 0; base = 0; said = 0 }

-- at the end of the search
pub best_whole : (begin end : ℕ) (rs : List OfferedRange) (n : ℕ) (found : Option Piece) → length rs ≤ n → IfSome found (λ q. IsBest begin end rs n q) →
    IfSome found (λ q. IsFirst begin end rs q)
best_whole begin end rs n None l h = tt
best_whole begin end rs n (Some q) l h = record {
  range = h.range;
  at = h.at;
  whole = h.whole;
  soonest = subst (λ xs. All (LaterThan begin end q.begin) xs) (take_all n rs l) h.soonest;
}
