-- Between which pages the ranges of a table lie.
use Rattle.std.specs.Prelude.{◌≡◌, ◌≤◌, true, nat_eq, List, length}
use Rattle.std.specs.List.{All, list_any}
use Rattle.offered_ranges.specs.declared.range.OfferedRange.{OfferedRange}
use Rattle.offered_ranges.specs.declared.bound.OfferedBounds.{OfferedBounds}

-- the range lies between them
abbrev pub LiesIn : OfferedBounds → OfferedRange → Type 0
LiesIn b r = (b.begin ≤ r.begin) × (r.end ≤ b.end)

-- All ranges lie between the bounds, and each bound is one of a range. Where there is no range they are 0.
pub record AreBounds (rs : List OfferedRange) (b : OfferedBounds) : Type 0 where
  pub within : All (LiesIn b) rs
  pub lowest : 1 ≤ length rs → list_any (λ r. nat_eq r.begin b.begin) rs ≡ true
  pub highest : 1 ≤ length rs → list_any (λ r. nat_eq r.end b.end) rs ≡ true
  pub none : length rs ≡ 0 → (b.begin ≡ 0) × (b.end ≡ 0)
