-- What each two guests have in common: for each guest a row, with an entry for each guest before it.
use Rattle.std.specs.Prelude.{ℕ, ◌+◌, ◌-◌, ◌^◌, min, nat_lt, List, [], length, map, replicate, slice_index_or, Option, Some, None}
use Rattle.std.specs.List.{range_with_len}
use Rattle.std.specs.declared.vec.Vec.{Vec}
use Rattle.fleet_census.specs.Amounts.{with_content}
use Rattle.fleet_census.specs.Steps.{no_amount}
use Rattle.fleet_census.specs.declared.content.Content.{Content}
use Rattle.fleet_census.specs.declared.content.Holder.{Holder}
use Rattle.fleet_census.specs.declared.pair.FleetPair.{FleetPair}
use Rattle.fleet_census.specs.declared.pair.Pairs.{Pairs}
use Rattle.fleet_census.specs.declared.pair.Pairs.TheVariants.{Counted, Omitted}

-- what two guests have in common, with a content more that both have; no sum goes beyond its greatest number
abbrev pub pair_with : Content → FleetPair → Holder → Holder → FleetPair
pair_with content pair holder other = record {
  contents = with_content pair.contents (nat_lt 0 content.zero) 1;
  pages = with_content pair.pages (nat_lt 0 content.zero) (min (holder.copies + other.copies) (2 ^ 64 - 1) - 1);
}

-- the same, if both have it and if one of them hasn't
abbrev pub pair_after : Content → FleetPair → Option Holder → Option Holder → FleetPair
pair_after content pair None other = pair
pair_after content pair (Some holder) None = pair
pair_after content pair (Some holder) (Some other) = pair_with content pair holder other

abbrev pub no_pair : FleetPair
no_pair = record { contents = no_amount; pages = no_amount }

-- the rows as lists
abbrev pub rows_of : {A : Type 0} → List (Vec FleetPair A) → List (List FleetPair)
rows_of rows = map (λ row. row.items) rows

-- how many entries each row has
abbrev pub row_lengths : List (List FleetPair) → List ℕ
row_lengths rows = map length rows

-- what a guest has in common with one before it
abbrev pub pair_at : List (List FleetPair) → ℕ → ℕ → FleetPair
pair_at rows file other = slice_index_or (slice_index_or rows file []) other no_pair

-- the rows of so many guests, without contents
abbrev pub empty_rows : ℕ → List (List FleetPair)
empty_rows guests = map (λ before. replicate before no_pair) (range_with_len 0 guests)

-- and where pairs may not be counted
abbrev pub rows_for : Pairs → ℕ → List (List FleetPair)
rows_for Counted guests = empty_rows guests
rows_for Omitted guests = []
