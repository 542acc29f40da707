-- Which pages ranges have, and pieces of them.
use Rattle.std.specs.Prelude.{◌≡◌, ℕ, ◌-◌, ◌≤◌, max, min, Bool, true, ◌&&◌, nat_le, nat_lt, if◌then◌else◌, List, Option, Some, None, slice_get}
use Rattle.std.specs.List.{All, sum_by}
use Rattle.offered_ranges.specs.declared.range.OfferedRange.{OfferedRange}
use Rattle.offered_ranges.specs.declared.piece.Piece.{Piece}

-- the range has the page
abbrev pub has : ℕ → OfferedRange → Bool
has p r = nat_le r.begin p && nat_lt p r.end

-- how many of the ranges pass a test
abbrev pub count_of : (OfferedRange → Bool) → List OfferedRange → ℕ
count_of test rs = sum_by (λ r. if test r then 1 else 0) rs

-- how many have the page
abbrev pub times : ℕ → List OfferedRange → ℕ
times p rs = count_of (has p) rs

-- the range has a page that lies between two others
abbrev pub meets : ℕ → ℕ → OfferedRange → Bool
meets begin end r = nat_lt (max r.begin begin) (min r.end end)

-- its piece that lies there, if its place in the table is this one
abbrev pub piece_of : ℕ → ℕ → ℕ → OfferedRange → Option Piece
piece_of begin end place r =
    if meets begin end r then
    Some (record {
      place = place;
      begin = max r.begin begin;
      end = min r.end end;
      window = r.window;
      first = max r.begin begin - r.base;
    })
    else None

-- the one of two pieces that begins sooner
abbrev pub sooner : Option Piece → Option Piece → Option Piece
sooner None q = q
sooner (Some q) None = Some q
sooner (Some q) (Some s) = Some (if nat_lt s.begin q.begin then s else q)

-- A piece of a range of the table, and no piece there begins sooner.
pub record IsFirst (begin end : ℕ) (rs : List OfferedRange) (q : Piece) : Type 0 where
  pub range : OfferedRange
  pub at : slice_get rs q.place ≡ Some range
  pub whole : piece_of begin end q.place range ≡ Some q
  pub soonest : All (λ r. meets begin end r ≡ true → q.begin ≤ max r.begin begin) rs
