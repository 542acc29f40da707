-- What is left to a process's own code.
use Rattle.std.specs.Prelude.{◌≡◌, ℕ, ◌+◌, ◌-◌, ◌*◌, ◌≤◌, true, if◌then◌else◌, List, [], ◌∷◌}
use Rattle.look_tasks.specs.Rooms.{spare_of, most_of, fits}

-- Where mappings are taken, enough are left of the limit.
abbrev pub LeavesEnough : Type 0
LeavesEnough = (limit taken count : ℕ) → 1 ≤ count → fits (most_of limit) taken count ≡ true → taken + count + spare_of limit ≤ limit

-- And that is a tenth, rounded down, and at least 4,000.
abbrev pub LeavesATenth : Type 0
LeavesATenth =
    (limit taken count : ℕ) → 1 ≤ count → fits (most_of limit) taken count ≡ true →
    (taken + count + 4000 ≤ limit) × (10 * (taken + count) ≤ 9 * limit + 9)

-- mappings are taken, if they fit, or given back
pub data Move : Type 0 where
  takes : ℕ → Move
  gives : ℕ → Move

-- how many are taken then, of so many at most
abbrev pub moved : ℕ → ℕ → Move → ℕ
moved most taken (takes count) = if fits most taken count then taken + count else taken
moved most taken (gives count) = taken - count

abbrev pub after : ℕ → ℕ → List Move → ℕ
after most taken [] = taken
after most taken (m ∷ ms) = after most (moved most taken m) ms

-- From none on, no more are taken than may be.
abbrev pub StaysWithin : Type 0
StaysWithin = (limit : ℕ) (ms : List Move) → after (most_of limit) 0 ms ≤ most_of limit
