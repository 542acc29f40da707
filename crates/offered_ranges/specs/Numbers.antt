-- The numbers of windows' pages.
use Rattle.std.specs.Prelude.{◌≡◌, ℕ, ◌+◌, ◌-◌, ◌^◌, ◌<◌, ◌≤◌, Bool, true, false, not, ◌&&◌, nat_le, nat_lt, List}
use Rattle.std.specs.List.{list_any}
use Rattle.offered_ranges.specs.declared.numbers.Taken.{Taken}

-- the number behind those of a window
abbrev pub end_of : Taken → ℕ
end_of t = t.base + t.count

-- one of so many numbers in a row is the window's
abbrev pub meets : ℕ → ℕ → Taken → Bool
meets from count t = nat_lt from (end_of t) && nat_lt t.base (from + count)

-- so many numbers in a row are no window's, and below 2^32 - 1
abbrev pub fits : ℕ → ℕ → List Taken → Bool
fits from count ts = not (list_any (meets from count) ts) && nat_le (from + count) (2 ^ 32 - 1)

-- They are, and from no lower number on are so many.
pub record IsFirst (count : ℕ) (ts : List Taken) (from : ℕ) : Type 0 where
  pub fit : fits from count ts ≡ true
  pub first : (lower : ℕ) → lower < from → fits lower count ts ≡ false

-- From each number up to another one, so many in a row have one that is a window's.
pub record IsTaken (from count : ℕ) (ts : List Taken) (end : ℕ) : Type 0 where
  pub more : from < end
  pub within : end < 2 ^ 33
  pub each : (n : ℕ) → from ≤ n → n < end → list_any (meets n count) ts ≡ true
