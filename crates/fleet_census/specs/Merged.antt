-- What a merge answers.
use Rattle.std.specs.Prelude.{ℕ, ◌^◌, ◌≤◌, List, Option, Result, Ok, Err}
use Rattle.digest_text.specs.Fields.{Row}
use Rattle.fleet_census.specs.Amounts.{all_digests}
use Rattle.fleet_census.specs.Fleets.{all_pages}
use Rattle.fleet_census.specs.States.{AreBehind, Said}
use Rattle.fleet_census.specs.Tallies.{AreTallied}
use Rattle.fleet_census.specs.declared.entry.Entry.{Entry}
use Rattle.fleet_census.specs.declared.fault.FleetFault.{FleetFault}
use Rattle.fleet_census.specs.declared.fault.FleetFault.TheVariants.{OutOfMemory, TooManyDigests, TooManyPages, OtherSample, Read, Line}
use Rattle.fleet_census.specs.declared.tally.Tally.{Tally}

-- the digests below a bound are counted, and at least as many pages as turns were taken
pub record IsAt {A : Type 0} (fleet : List (List Row)) (every turn : ℕ) (leaves : List Entry) (rows_left : List (Option Said))
    (tally : Tally A) : Type 0 where
  pub bound : ℕ
  pub within : bound ≤ 2 ^ 128
  pub behind : AreBehind fleet (λ file. bound) leaves rows_left
  pub tallied : AreTallied fleet every bound tally
  pub enough : turn ≤ tally.weight

-- all digests are counted, or the pages are too many
abbrev pub IsCounted : {A : Type 0} → List (List Row) → ℕ → Tally A → Result (Unit {0}) FleetFault → Type 0
IsCounted fleet every tally (Ok done) = AreTallied fleet every all_digests tally
IsCounted fleet every tally (Err TooManyPages) = 2 ^ 64 ≤ all_pages every fleet
IsCounted fleet every tally (Err (Line number fault)) = Unit {0}
IsCounted fleet every tally (Err (Read number error)) = Unit {0}
IsCounted fleet every tally (Err OutOfMemory) = Unit {0}
IsCounted fleet every tally (Err TooManyDigests) = ⊥
IsCounted fleet every tally (Err (OtherSample number)) = ⊥
