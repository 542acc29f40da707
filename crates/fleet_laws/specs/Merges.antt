-- A merge of whole digests has the numbers of a census of the pages.
use Rattle.std.specs.Prelude.{◌≡◌, ℕ, ◌-◌, ◌^◌, ◌<◌, min, List, ◌++◌, length, map}
use Rattle.std.specs.List.{AllZip, Contains}
use Rattle.page_model.specs.Pages.{blank}
use Rattle.page_digest.specs.Hashes.{content_digest}
use Rattle.guest_digests.specs.Counted.{AreCounted}
use Rattle.guest_digests.specs.Samples.{Sampled, kept_digests}
use Rattle.guest_digests.specs.declared.line.DigestLine.{DigestLine}
use Rattle.digest_text.specs.Fields.{Row}
use Rattle.digest_text.specs.Reread.{head_by}
use Rattle.digest_text.specs.Written.{rows_of}
use Rattle.page_census.specs.Contents.{Content, contents}
use Rattle.page_census.specs.Numbers as census
use Rattle.page_census.specs.declared.numbers.GuestNumbers.{GuestNumbers}
use Rattle.page_census.specs.declared.numbers.TotalNumbers.{TotalNumbers}
use Rattle.page_census.specs.declared.guest.Guest.{Guest}
use Rattle.page_census.specs.declared.table.CopiesClass.{CopiesClass}
use Rattle.fleet_census.specs.Amounts.{estimate}
use Rattle.fleet_census.specs.Fleets as merged
use Rattle.fleet_census.specs.Numbers.{AreNumbers}
use Rattle.fleet_census.specs.declared.class.FleetClass.{FleetClass}
use Rattle.fleet_census.specs.declared.guest.FleetGuest.{FleetGuest}
use Rattle.fleet_census.specs.declared.numbers.FleetNumbers.{FleetNumbers}
use Rattle.fleet_census.specs.declared.pair.Pairs.{Pairs}
use Rattle.fleet_census.specs.declared.total.FleetTotal.{FleetTotal}

-- the digest of a content
abbrev pub digest : Content → ℕ
digest content = content_digest content.0 content.1

-- no two different ones of these contents have one digest
pub record AreApart (all : List Content) : Type 0 where
  pub each : (a b : Content) → Contains all a → Contains all b → digest a ≡ digest b → a ≡ b

-- a sample of 1, which keeps each digest
abbrev pub whole : ℕ → Sampled
whole salt = record { salt = salt; every = 1 }

-- the content of a page of zeros of each guest
abbrev pub zeros : {S : Type 0} → List (Guest S) → List Content
zeros guests = map (λ guest. (guest.salt, blank)) guests

module _ {S : Type 0} (pages : S → List (List ℕ)) where
  -- The rows are those of a whole digest of the guest's pages: of lines that count the digests of these, each under the guest's salt and
  -- number of pages. The guest's name is any.
  pub record AreRowsOf (guest : Guest S) (rows : List Row) : Type 0 where
    pub name : List ℕ
    pub lines : List DigestLine
    pub counted : AreCounted (kept_digests (whole guest.salt) (pages guest.source)) lines
    pub are : rows ≡ rows_of (head_by name (whole guest.salt) (pages guest.source)) lines

  -- The fleet has the rows of whole digests of these guests' pages, in the guests' order. And different contents have different digests:
  -- those of all pages, and that of a page of zeros under each guest's salt, whether or not the guest has one.
  pub record IsFleetOf (guests : List (Guest S)) (fleet : List (List Row)) : Type 0 where
    pub rows : AllZip AreRowsOf guests fleet
    pub apart : AreApart (contents pages guests ++ zeros guests)

-- the numbers of a guest are those of a census, which has `within`, too
pub record MatchesGuest (guest : FleetGuest) (numbers : GuestNumbers) : Type 0 where
  pub pages : guest.pages ≡ numbers.pages
  pub zero : guest.zero ≡ numbers.zero
  pub distinct : estimate guest.distinct 1 ≡ numbers.distinct
  pub shared : estimate guest.shared 1 ≡ numbers.shared
  pub alone : estimate guest.alone 1 ≡ numbers.alone

-- the numbers in total are those of a census
pub record MatchesTotal (total : FleetTotal) (numbers : TotalNumbers) : Type 0 where
  pub pages : total.pages ≡ numbers.pages
  pub zero : total.zero ≡ numbers.zero
  pub shared : estimate total.shared 1 ≡ numbers.shared
  pub frames : estimate total.frames 1 ≡ numbers.frames
  pub reclaimed : estimate total.reclaimed 1 ≡ numbers.reclaimed
  pub zero_reclaimed : total.zero_reclaimed ≡ numbers.zero_reclaimed
  pub between : estimate total.between 1 ≡ numbers.between

-- A class as a census has it. A census has fewer than 2^32 pages, and so its last class ends there.
abbrev pub as_counted : FleetClass → CopiesClass
as_counted class = record {
  from = class.from;
  to = min class.to (2 ^ 32 - 1);
  contents = estimate class.contents 1;
  pages = estimate class.pages 1;
}

module _ {S : Type 0} (pages : S → List (List ℕ)) where
  -- These numbers of a merge are those of a census of the guests' pages: of each guest, in total, and class for class, if there are as
  -- few pages as a census may have.
  pub record MatchesCensus (guests : List (Guest S)) (counted : List FleetGuest) (total : FleetTotal) (copies : List FleetClass) : Type 0 where
    pub guests_are : AllZip MatchesGuest counted (census.numbers_of pages guests)
    pub total_is : MatchesTotal total (census.total_numbers pages guests)
    pub copies_are : length (contents pages guests) < 2 ^ 32 → map as_counted copies ≡ census.copies_table (contents pages guests)

  -- the numbers of a merge of whole digests
  abbrev pub DigestLaw : Type 0
  DigestLaw =
      (guests : List (Guest S)) (fleet : List (List Row)) → IsFleetOf pages guests fleet →
      MatchesCensus guests (map (merged.guest_numbers fleet) fleet) (merged.total_numbers fleet) (merged.copies_table fleet)

-- The numbers that a merge answers are those of a census, and their sample is 1.
pub record IsCensus {S A : Type 0} (pages : S → List (List ℕ)) (guests : List (Guest S)) (numbers : FleetNumbers A) : Type 0 where
  pub matches : MatchesCensus pages guests numbers.guests.items numbers.total numbers.copies.items
  pub sample : numbers.sample ≡ 1

-- and those that `merge` answers, whether or not it counts pairs
abbrev pub MergeLaw : {S : Type 0} → Type 0 → (S → List (List ℕ)) → Type 0
MergeLaw {S} A pages =
    (guests : List (Guest S)) (fleet : List (List Row)) (pairs : Pairs) (numbers : FleetNumbers A) → IsFleetOf pages guests fleet →
    AreNumbers fleet pairs numbers → IsCensus pages guests numbers
