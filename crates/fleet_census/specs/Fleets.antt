-- What is counted of a fleet: of the rows of each guest's file. Each number is a sum over all digests.
use Rattle.std.specs.Prelude.{ℕ, ◌+◌, ◌-◌, ◌*◌, ◌==◌, ◌&&◌, min, nat_lt, Bool, if◌then◌else◌, List, [], ◌∷◌, count_by, filter, length, map, slice_index_or, sum_by, take, Option, Some, None}
use Rattle.std.specs.List.{range_with_len}
use Rattle.guest_digests.specs.Counted.{listed_copies}
use Rattle.guest_digests.specs.Samples.{zeros_digest}
use Rattle.guest_digests.specs.declared.line.DigestLine.{DigestLine}
use Rattle.digest_text.specs.Fields.{Row}
use Rattle.fleet_census.specs.Amounts.{all_digests, amount_below, sum_below}
use Rattle.fleet_census.specs.Classes.{fewest, has_contents, is_in_class, most}
use Rattle.fleet_census.specs.declared.class.FleetClass.{FleetClass}
use Rattle.fleet_census.specs.declared.content.Content.{Content}
use Rattle.fleet_census.specs.declared.content.Holder.{Holder}
use Rattle.fleet_census.specs.declared.guest.FleetGuest.{FleetGuest}
use Rattle.fleet_census.specs.declared.pair.FleetPair.{FleetPair}
use Rattle.fleet_census.specs.declared.pair.Pairs.{Pairs}
use Rattle.fleet_census.specs.declared.pair.Pairs.TheVariants.{Counted, Omitted}
use Rattle.fleet_census.specs.declared.total.FleetTotal.{FleetTotal}

abbrev pub lines_of : List Row → List DigestLine
lines_of rows = map (λ row. row.line) rows

-- the salt of a guest, as its first line says
abbrev pub salt_of : List Row → ℕ
salt_of [] = 0
salt_of (row ∷ rows) = row.head.salt

-- how many pages a guest has, as its first line says
abbrev pub pages_of : List Row → ℕ
pages_of [] = 0
pages_of (row ∷ rows) = row.head.pages

-- how many pages of a guest have this digest
abbrev pub copies_of : ℕ → List Row → ℕ
copies_of digest rows = listed_copies digest (lines_of rows)

-- how many of them are pages of zeros: all, if it is the digest of these under the guest's salt
abbrev pub zero_of : ℕ → List Row → ℕ
zero_of digest rows = if digest == zeros_digest (salt_of rows) then copies_of digest rows else 0

-- how many pages of all guests have this digest, and how many of them are pages of zeros
abbrev pub all_copies : List (List Row) → ℕ → ℕ
all_copies fleet digest = sum_by (copies_of digest) fleet

abbrev pub all_zero : List (List Row) → ℕ → ℕ
all_zero fleet digest = sum_by (zero_of digest) fleet

-- how many guests have it
abbrev pub all_holders : List (List Row) → ℕ → ℕ
all_holders fleet digest = count_by (λ rows. nat_lt 0 (copies_of digest rows)) fleet

-- two guests have it
abbrev pub both_have : ℕ → List Row → List Row → Bool
both_have digest rows others = nat_lt 0 (copies_of digest rows) && nat_lt 0 (copies_of digest others)

-- it is the digest of a page of zeros of some guest
abbrev pub is_zeros : List (List Row) → ℕ → Bool
is_zeros fleet digest = nat_lt 0 (all_zero fleet digest)

module _ (fleet : List (List Row)) (bound : ℕ) where
  -- The numbers of a guest, by the digests below a bound. Of a digest count: among different contents one if the guest has it; among pages
  -- that are shared the guest's copies if all guests have more than one; among those that the guest reclaims alone its copies less one.
  abbrev pub guest_below : List Row → FleetGuest
  guest_below rows = record {
    pages = pages_of rows;
    zero = sum_below (λ digest. zero_of digest rows) bound;
    distinct = amount_below (is_zeros fleet) (λ digest. min (copies_of digest rows) 1) bound;
    shared = amount_below (is_zeros fleet) (λ digest. if nat_lt 1 (all_copies fleet digest) then copies_of digest rows else 0) bound;
    alone = amount_below (is_zeros fleet) (λ digest. copies_of digest rows - 1) bound;
  }

  -- What two guests have in common, by the digests below a bound. Of a digest that both have count: among contents one; among pages all copies
  -- of both less one.
  abbrev pub pair_below : List Row → List Row → FleetPair
  pair_below rows others = record {
    contents = amount_below (is_zeros fleet) (λ digest. if both_have digest rows others then 1 else 0) bound;
    pages = amount_below (is_zeros fleet) (λ digest. if both_have digest rows others
        then copies_of digest rows + copies_of digest others - 1 else 0) bound;
  }

  -- The numbers in total. Of a digest count: among frames one if some guest has it; among pages to reclaim all copies less one; among those
  -- that only sharing between guests reclaims the guests that have it less one.
  abbrev pub total_below : FleetTotal
  total_below = record {
    pages = sum_by pages_of fleet;
    zero = sum_below (all_zero fleet) bound;
    shared = amount_below (is_zeros fleet) (λ digest. if nat_lt 1 (all_copies fleet digest) then all_copies fleet digest else 0) bound;
    frames = amount_below (is_zeros fleet) (λ digest. min (all_copies fleet digest) 1) bound;
    reclaimed = amount_below (is_zeros fleet) (λ digest. all_copies fleet digest - 1) bound;
    zero_reclaimed = sum_below (λ digest. all_zero fleet digest - 1) bound;
    between = amount_below (is_zeros fleet) (λ digest. all_holders fleet digest - 1) bound;
  }

  -- the class with this number: the contents with so many copies, and their pages
  abbrev pub class_below : ℕ → FleetClass
  class_below number = record {
    from = fewest number;
    to = most number;
    contents = amount_below (is_zeros fleet) (λ digest. if is_in_class (all_copies fleet digest) number then 1 else 0) bound;
    pages = amount_below (is_zeros fleet) (λ digest. if is_in_class
        (all_copies fleet digest) number then all_copies fleet digest else 0) bound;
  }

-- the numbers of a guest, and those in total
abbrev pub guest_numbers : List (List Row) → List Row → FleetGuest
guest_numbers fleet rows = guest_below fleet all_digests rows

abbrev pub total_numbers : List (List Row) → FleetTotal
total_numbers fleet = total_below fleet all_digests

-- for each guest what it has in common with each guest before it
abbrev pub pair_table : List (List Row) → List (List FleetPair)
pair_table fleet = map (λ file. map (pair_below fleet all_digests (slice_index_or fleet file [])) (take file fleet))
    (range_with_len 0 (length fleet))

-- the same where it is counted, and no rows where it isn't
abbrev pub pairs_counted : Pairs → List (List Row) → List (List FleetPair)
pairs_counted Counted fleet = pair_table fleet
pairs_counted Omitted fleet = []

-- the numbers of all classes
unfoldable pub class_numbers : List ℕ
class_numbers = range_with_len 0 65

-- the classes that have contents, rising
abbrev pub copies_table : List (List Row) → List FleetClass
copies_table fleet = filter has_contents (map (class_below fleet all_digests) class_numbers)

-- all that is listed of a digest
abbrev pub content_of : List (List Row) → ℕ → Content
content_of fleet digest = record { copies = all_copies fleet digest; zero = all_zero fleet digest; holders = all_holders fleet digest }

-- how many pages a digest stands for, if of the contents but zeros one in `every` is kept
abbrev pub weight : ℕ → List (List Row) → ℕ → ℕ
weight every fleet digest = if is_zeros fleet digest then all_copies fleet digest else every * all_copies fleet digest

-- the estimate of all pages
abbrev pub all_pages : ℕ → List (List Row) → ℕ
all_pages every fleet = sum_below (weight every fleet) all_digests

-- a guest that has the digest
abbrev pub holder_of : ℕ → ℕ → List Row → Option Holder
holder_of file digest rows = if nat_lt 0 (copies_of digest rows)
    then Some (record { file = file; copies = copies_of digest rows; zero = zero_of digest rows })
    else None
