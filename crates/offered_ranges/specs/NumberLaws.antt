-- What the numbers of windows' pages are worth.
use Rattle.std.specs.Prelude.{◌≡◌, ℕ, ◌≤◌, Bool, true, ◌&&◌, nat_le, nat_lt, List, ◌∷◌}
use Rattle.std.specs.List.{count_by}
use Rattle.offered_ranges.specs.declared.numbers.Taken.{Taken}
use Rattle.offered_ranges.specs.Numbers.{IsFirst, end_of}

-- the number is one of the window's pages
abbrev pub has : ℕ → Taken → Bool
has n t = nat_le t.base n && nat_lt n (end_of t)

-- by how many windows a page has this number
abbrev pub times : ℕ → List Taken → ℕ
times n ts = count_by (has n) ts

abbrev pub window_of : ℕ → ℕ → Taken
window_of from count = record { base = from; count = count }

-- No window has a number that a new one gets.
abbrev pub NoneShared : Type 0
NoneShared =
    (count : ℕ) (ts : List Taken) (from : ℕ) → IsFirst count ts from → (n : ℕ) → has n (window_of from count) ≡ true → times n ts ≡ 0

-- Where no two windows share a number, that stays so.
abbrev pub StayApart : Type 0
StayApart =
    (count : ℕ) (ts : List Taken) (from : ℕ) → IsFirst count ts from → ((n : ℕ) → times n ts ≤ 1) → (n : ℕ) → times n (window_of from count ∷ ts) ≤ 1
