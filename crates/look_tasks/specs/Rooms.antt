-- How many mappings windows may take.
use Rattle.std.specs.Prelude.{ℕ, ◌+◌, ◌-◌, ◌/◌, max, Bool, ◌||◌, nat_eq, nat_le}
use Rattle.look_tasks.specs.declared.room.TheConstants.{SPARE_PART, SPARE_LEAST}

-- how many are left to the process's own code: a tenth, and at least 4,000
abbrev pub spare_of : ℕ → ℕ
spare_of limit = max (limit / SPARE_PART) SPARE_LEAST

-- how many windows may take
abbrev pub most_of : ℕ → ℕ
most_of limit = limit - spare_of limit

-- so many more fit below a most: none more always do
abbrev pub fits : ℕ → ℕ → ℕ → Bool
fits most taken count = nat_eq count 0 || nat_le (taken + count) most
