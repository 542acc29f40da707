-- The classes of copies: 1, 2, 3 to 4, 5 to 8, and so on in powers of two.
use Rattle.std.specs.Prelude.{ℕ, ◌+◌, ◌-◌, ◌/◌, ◌^◌, ◌≤◌, ◌&&◌, min, nat_le, nat_lt, Bool, if◌then◌else◌, List, slice_index_or}
use Rattle.fleet_census.specs.Amounts.{with_content}
use Rattle.fleet_census.specs.Steps.{no_amount}
use Rattle.fleet_census.specs.declared.class.FleetClass.{FleetClass}
use Rattle.fleet_census.specs.declared.content.Content.{Content}

-- the fewest and the most copies in the class with this number; no content has 2^64 copies
abbrev pub fewest : ℕ → ℕ
fewest number = 2 ^ number / 2 + 1

abbrev pub most : ℕ → ℕ
most number = min (2 ^ number) (2 ^ 64 - 1)

pub record IsInClass (copies number : ℕ) : Type 0 where
  pub low : fewest number ≤ copies
  pub high : copies ≤ most number

-- this many copies are in the class
abbrev pub is_in_class : ℕ → ℕ → Bool
is_in_class copies number = nat_le (fewest number) copies && nat_le copies (most number)

-- the class, without contents
abbrev pub no_contents : ℕ → FleetClass
no_contents number = record { from = fewest number; to = most number; contents = no_amount; pages = no_amount }

-- what stands behind the end of a list
abbrev pub no_class : FleetClass
no_class = record { from = 0; to = 0; contents = no_amount; pages = no_amount }

abbrev pub class_at : List FleetClass → ℕ → FleetClass
class_at classes number = slice_index_or classes number no_class

-- a class with a content more
abbrev pub class_with : Content → FleetClass → FleetClass
class_with content class = record {
  from = class.from;
  to = class.to;
  contents = with_content class.contents (nat_lt 0 content.zero) 1;
  pages = with_content class.pages (nat_lt 0 content.zero) content.copies;
}

-- a class after a content came, which may not be in it
abbrev pub class_after : Content → ℕ → FleetClass → FleetClass
class_after content number class = if is_in_class content.copies number then class_with content class else class

-- the class has contents
abbrev pub has_contents : FleetClass → Bool
has_contents class = nat_lt 0 (class.contents.zeros + class.contents.others)
