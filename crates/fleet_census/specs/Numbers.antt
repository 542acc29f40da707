-- What a merge answers to what files say.
use Rattle.std.specs.Prelude.{◌≡◌, ℕ, ◌^◌, ◌⊎◌, ◌<◌, ◌≤◌, List, [], length, map, slice_index_or, sum_by, Result, Ok, Err}
use Rattle.digest_text.specs.Fields.{Row}
use Rattle.fleet_census.specs.Amounts.{all_digests}
use Rattle.fleet_census.specs.Fleets.{all_pages, copies_table, guest_numbers, pages_of, pairs_counted, total_numbers}
use Rattle.fleet_census.specs.Openings.{IsOther, sample_of}
use Rattle.fleet_census.specs.Pairs.{rows_of}
use Rattle.fleet_census.specs.States.{AreSound, Said}
use Rattle.fleet_census.specs.Tallies.{AreTallied}
use Rattle.fleet_census.specs.declared.fault.FleetFault.{FleetFault}
use Rattle.fleet_census.specs.declared.fault.FleetFault.TheVariants.{OutOfMemory, TooManyDigests, TooManyPages, OtherSample, Read, Line}
use Rattle.fleet_census.specs.declared.merging.TheConstants.{MAX_DIGESTS}
use Rattle.fleet_census.specs.declared.numbers.FleetNumbers.{FleetNumbers}
use Rattle.fleet_census.specs.declared.pair.Pairs.{Pairs}
use Rattle.fleet_census.specs.declared.tally.Tally.{Tally}

-- the rows of a file, and none of one at fault
abbrev pub rows_in : Said → List Row
rows_in (Ok rows) = rows
rows_in (Err fault) = []

abbrev pub fleet_of : List Said → List (List Row)
fleet_of files = map rows_in files

-- Of all files' contents one in `sample` is kept; 1, if no file has a line.
pub record IsSampleOf (fleet : List (List Row)) (sample : ℕ) : Type 0 where
  pub least : 1 ≤ sample
  pub one : (file : ℕ) → file < length fleet
      → (sample_of (slice_index_or fleet file []) ≡ 0) ⊎ (sample_of (slice_index_or fleet file []) ≡ sample)
  pub some : (sample ≡ 1) ⊎ (file : ℕ) × (file < length fleet) × (sample_of (slice_index_or fleet file []) ≡ sample)

-- the pages of the contents, each but zeros as often as the sample says, are too many
pub record IsHeavy (fleet : List (List Row)) : Type 0 where
  pub sample : ℕ
  pub is : IsSampleOf fleet sample
  pub most : 2 ^ 64 ≤ all_pages sample fleet

-- the guests have too many pages, or they are estimated to
abbrev pub HasTooMany : List (List Row) → Type 0
HasTooMany fleet = (2 ^ 64 ≤ sum_by pages_of fleet) ⊎ IsHeavy fleet

-- all digests are counted
pub record AreAllTallied {A : Type 0} (fleet : List (List Row)) (sample : ℕ) (tally : Tally A) : Type 0 where
  pub is : IsSampleOf fleet sample
  pub pages : sum_by pages_of fleet < 2 ^ 64
  pub tallied : AreTallied fleet sample all_digests tally

abbrev pub IsAllCounted : {A : Type 0} → List (List Row) → Tally A → Result ℕ FleetFault → Type 0
IsAllCounted fleet tally (Ok sample) = AreAllTallied fleet sample tally
IsAllCounted fleet tally (Err (OtherSample number)) = IsOther fleet number
IsAllCounted fleet tally (Err TooManyPages) = HasTooMany fleet
IsAllCounted fleet tally (Err (Line number fault)) = Unit {0}
IsAllCounted fleet tally (Err (Read number error)) = Unit {0}
IsAllCounted fleet tally (Err OutOfMemory) = Unit {0}
IsAllCounted fleet tally (Err TooManyDigests) = ⊥

-- the numbers are those of the definitions, and fit
pub record AreNumbers {A : Type 0} (fleet : List (List Row)) (pairs : Pairs) (numbers : FleetNumbers A) : Type 0 where
  pub sample : IsSampleOf fleet numbers.sample
  pub pages : sum_by pages_of fleet < 2 ^ 64
  pub light : all_pages numbers.sample fleet < 2 ^ 64
  pub guests : numbers.guests.items ≡ map (guest_numbers fleet) fleet
  pub total : numbers.total ≡ total_numbers fleet
  pub copies : numbers.copies.items ≡ copies_table fleet
  pub pairs_are : rows_of numbers.pairs.items ≡ pairs_counted pairs fleet

-- The numbers of whole files. Or a file at fault is reported, with its first fault; or, where all are whole, the first other sample, or that the
-- pages are too many.
abbrev pub IsMerged : {A : Type 0} → List Said → Pairs → Result (FleetNumbers A) FleetFault → Type 0
IsMerged files pairs (Ok numbers) = AreSound files × AreNumbers (fleet_of files) pairs numbers
IsMerged files pairs (Err (Line number fault)) = (number < length files) × (slice_index_or files number (Ok []) ≡ Err fault)
IsMerged files pairs (Err (OtherSample number)) = AreSound files → IsOther (fleet_of files) number
IsMerged files pairs (Err TooManyPages) = AreSound files → HasTooMany (fleet_of files)
IsMerged files pairs (Err (Read number error)) = Unit {0}
IsMerged files pairs (Err OutOfMemory) = Unit {0}
IsMerged files pairs (Err TooManyDigests) = MAX_DIGESTS < length files
