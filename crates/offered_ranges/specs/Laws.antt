-- What tables of ranges are worth: whose each page is.
use Rattle.std.specs.Prelude.{◌≡◌, ℕ, ◌+◌, ◌<◌, ◌≤◌, Bool, true, false, ◌&&◌, nat_eq, nat_le, nat_lt, List, Some, slice_get}
use Rattle.std.specs.List.{list_any}
use Rattle.offered_ranges.specs.declared.range.OfferedRange.{OfferedRange}
use Rattle.offered_ranges.specs.declared.piece.Piece.{Piece}
use Rattle.offered_ranges.specs.Pieces.{IsFirst, count_of, has, meets, times}
use Rattle.offered_ranges.specs.Tables.{added, can_add, has_piece, is_all_left, taken_out}
use Rattle.offered_ranges.specs.declared.bound.OfferedBounds.{OfferedBounds}
use Rattle.offered_ranges.specs.Bounds.{AreBounds}

-- No page is in two ranges.
pub record AreApart (rs : List OfferedRange) : Type 0 where
  pub once : (p : ℕ) → times p rs ≤ 1

-- the page is the window's n-th, by this range
abbrev pub is_nth : ℕ → ℕ → ℕ → OfferedRange → Bool
is_nth p window n r = has p r && (nat_eq r.window window && nat_eq (r.base + n) p)

-- by how many of the ranges
abbrev pub nth_times : ℕ → ℕ → ℕ → List OfferedRange → ℕ
nth_times p window n rs = count_of (is_nth p window n) rs

-- the page is one of these
abbrev pub is_in : ℕ → ℕ → ℕ → Bool
is_in begin end p = nat_le begin p && nat_lt p end

-- The first piece begins where the first page of a range is. Before it there is none.
abbrev pub NoneBefore : Type 0
NoneBefore =
    (begin end : ℕ) (rs : List OfferedRange) (q : Piece) → IsFirst begin end rs q → (p : ℕ) → begin ≤ p → p < q.begin → times p rs ≡ 0

-- All pages of a piece are in the range that it is of, and lie between the two others.
abbrev pub AllInside : Type 0
AllInside =
    (begin end : ℕ) (rs : List OfferedRange) (q : Piece) → (is : IsFirst begin end rs q) → (p : ℕ) → q.begin ≤ p → p < q.end →
    (has p is.range ≡ true) × ((begin ≤ p) × (p < end))

-- Where no piece is found, there is no page of a range.
abbrev pub NoneThere : Type 0
NoneThere =
    (begin end : ℕ) (rs : List OfferedRange) → list_any (meets begin end) rs ≡ false → (p : ℕ) → begin ≤ p → p < end → times p rs ≡ 0

-- A range that was added has its pages, which no other had.
abbrev pub AddedApart : Type 0
AddedApart =
    (most count : ℕ) (rs : List OfferedRange) (begin end said : ℕ) → can_add most count rs begin end ≡ true → AreApart rs →
    AreApart (added rs begin end said)

-- Other pages are whose they were.
abbrev pub AddedKeeps : Type 0
AddedKeeps =
    (most count : ℕ) (rs : List OfferedRange) (begin end said : ℕ) → can_add most count rs begin end ≡ true →
    (p window n : ℕ) → is_in begin end p ≡ false → nth_times p window n (added rs begin end said) ≡ nth_times p window n rs

abbrev pub TakenApart : Type 0
TakenApart =
    (place begin end : ℕ) (r : OfferedRange) (rs : List OfferedRange) → slice_get rs place ≡ Some r → has_piece begin end r ≡ true → AreApart rs →
    AreApart (taken_out place begin end (Some r) rs)

-- Pages that were taken out are nobody's.
abbrev pub TakenGone : Type 0
TakenGone =
    (place begin end : ℕ) (r : OfferedRange) (rs : List OfferedRange) → slice_get rs place ≡ Some r → has_piece begin end r ≡ true → AreApart rs →
    (p : ℕ) → is_in begin end p ≡ true → times p (taken_out place begin end (Some r) rs) ≡ 0

-- All others are whose they were.
abbrev pub TakenKeeps : Type 0
TakenKeeps =
    (place begin end : ℕ) (r : OfferedRange) (rs : List OfferedRange) → slice_get rs place ≡ Some r → has_piece begin end r ≡ true →
    (p window n : ℕ) → is_in begin end p ≡ false → nth_times p window n (taken_out place begin end (Some r) rs) ≡ nth_times p window n rs

-- Pages that don't lie between the bounds are in no range.
abbrev pub NoneOutside : Type 0
NoneOutside =
    (rs : List OfferedRange) (b : OfferedBounds) → AreBounds rs b → (p : ℕ) → is_in b.begin b.end p ≡ false → times p rs ≡ 0

-- Of a window of which these pages are all that is left, no other page is in a range.
abbrev pub NoneElsewhere : Type 0
NoneElsewhere =
    (place begin end : ℕ) (r : OfferedRange) (rs : List OfferedRange) → slice_get rs place ≡ Some r → is_all_left place begin end (Some r) rs ≡ true →
    (p n : ℕ) → is_in begin end p ≡ false → nth_times p r.window n rs ≡ 0
