-- What is counted so far.
use Rattle.std.specs.Prelude.{◌≡◌, ℕ, ◌+◌, ◌*◌, ◌^◌, ◌<◌, ◌≤◌, nat_lt, Bool, true, false, if◌then◌else◌, List, [], length, map, slice_index_or, vec_capacity}
use Rattle.std.specs.List.{range_with_len}
use Rattle.digest_text.specs.Fields.{Row}
use Rattle.fleet_census.specs.Amounts.{sum_below}
use Rattle.fleet_census.specs.Classes.{class_at, no_contents}
use Rattle.fleet_census.specs.Fleets.{class_below, copies_of, guest_below, pair_below, total_below, weight}
use Rattle.fleet_census.specs.Pairs.{no_pair, pair_at, rows_of}
use Rattle.fleet_census.specs.Steps.{guest_at, no_amount}
use Rattle.fleet_census.specs.declared.content.Content.{Content}
use Rattle.fleet_census.specs.declared.tally.Tally.{Tally}

-- how many pages a content stands for
abbrev pub weight_of : ℕ → Content → ℕ
weight_of every content = if nat_lt 0 content.zero then content.copies else every * content.copies

-- the numbers are those by the digests below a bound; those of two guests, if there is an entry for them
pub record AreTallied {A : Type 0} (fleet : List (List Row)) (every bound : ℕ) (tally : Tally A) : Type 0 where
  pub guests : (file : ℕ) → file < length fleet → guest_at tally.guests.items file ≡ guest_below fleet bound (slice_index_or fleet file [])
  pub total : tally.total ≡ total_below fleet bound
  pub classes : (number : ℕ) → number < 65 → class_at tally.classes.items number ≡ class_below fleet bound number
  pub pairs : (file other : ℕ) → file < length fleet → other < file → other < length (slice_index_or (rows_of tally.pairs.items) file [])
      → pair_at (rows_of tally.pairs.items) file other
      ≡ pair_below fleet bound (slice_index_or fleet file []) (slice_index_or fleet other [])
  pub weight_is : tally.weight ≡ sum_below (weight every fleet) bound
  pub light : tally.weight < 2 ^ 64

-- nothing is counted, and there is room for the guests
pub record IsNew {A : Type 0} (guests : ℕ) (tally : Tally A) : Type 0 where
  pub none : tally.guests.items ≡ []
  pub room : guests ≤ vec_capacity tally.guests
  pub total : tally.total ≡ record { pages = 0; zero = 0; shared = no_amount; frames = no_amount; reclaimed = no_amount; zero_reclaimed = 0; between = no_amount }
  pub classes : tally.classes.items ≡ map no_contents (range_with_len 0 65)
  pub pairless : (file other : ℕ) → pair_at (rows_of tally.pairs.items) file other ≡ no_pair
  pub weightless : tally.weight ≡ 0

-- no guest has a digest from one to another
pub record NoneBelow (fleet : List (List Row)) (from at : ℕ) : Type 0 where
  pub each : (digest : ℕ) → from ≤ digest → digest < at → (file : ℕ) → copies_of digest (slice_index_or fleet file []) ≡ 0

-- the content is counted, too, or the pages are too many with it
abbrev pub IsTallied : {A : Type 0} → List (List Row) → ℕ → ℕ → Tally A → Bool → Type 0
IsTallied fleet every at tally true = AreTallied fleet every (at + 1) tally
IsTallied fleet every at tally false = 2 ^ 64 ≤ sum_below (weight every fleet) (at + 1)
