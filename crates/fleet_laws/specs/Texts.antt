-- From pages over digests' texts to the numbers of a census.
use Rattle.std.specs.Prelude.{◌≡◌, ℕ, ◌^◌, ◌<◌, true, List, [], ◌∷◌, ◌++◌, length, map, Some, Ok}
use Rattle.std.specs.List.{AllZip}
use Rattle.guest_digests.specs.Counted.{AreDigests}
use Rattle.guest_digests.specs.declared.digests.GuestDigests.{GuestDigests}
use Rattle.digest_text.specs.Fields.{Row}
use Rattle.digest_text.specs.Names.{is_name}
use Rattle.digest_text.specs.Rows.{digest_of}
use Rattle.digest_text.specs.Written.{IsWritten, head_for, rows_of, text_of}
use Rattle.page_census.specs.Contents.{AreSteady, contents}
use Rattle.page_census.specs.declared.guest.Guest.{Guest}
use Rattle.fleet_census.specs.Numbers.{IsMerged}
use Rattle.fleet_census.specs.declared.numbers.FleetNumbers.{FleetNumbers}
use Rattle.fleet_census.specs.declared.pair.Pairs.{Pairs}
use Rattle.fleet_laws.specs.Merges.{AreRowsOf, AreApart, IsCensus, whole, zeros}

-- a guest's digests, and the name that they are written under
pub record Named (A : Type 0) : Type 0 where
  pub name : List ℕ
  pub digests : GuestDigests A

module _ {A : Type 0} where
  -- the rows that are written of them
  abbrev pub written_rows : Named A → List Row
  written_rows named = rows_of (head_for named.name named.digests) named.digests.lines.items

  -- the text is what `write_digests` wrote of them, to a writer that held nothing
  abbrev pub IsTextOf : Named A → List ℕ → Type 0
  IsTextOf named text = IsWritten (Some []) (Some text) (text_of named.name named.digests) (Ok tt)

-- the guest with its pages, in place of their source
abbrev pub with_pages : {S : Type 0} → (S → List (List ℕ)) → Guest S → Guest (List (List ℕ))
with_pages pages guest = record { salt = guest.salt; source = pages guest.source }

module _ {S : Type 0} (is_steady : S → Type 0) (pages : S → List (List ℕ)) where
  -- The digests are what `digest_pages` answers of the guest's pages, with the guest's salt and a sample of 1. The name is one, and the
  -- numbers are those that their types hold.
  pub record AreDigestsOf {A : Type 0} (guest : Guest S) (named : Named A) : Type 0 where
    pub name : is_name named.name ≡ true
    pub salt : guest.salt < 2 ^ 32
    pub fits : named.digests.pages < 2 ^ 64
    pub sampling : named.digests.sampling ≡ whole guest.salt
    pub count : named.digests.pages ≡ length (pages guest.source)
    pub lines : AreDigests (is_steady guest.source) (pages guest.source) (whole guest.salt) named.digests.lines.items

  -- the guests with the pages that were read of each, in place of their source
  abbrev pub reads_of : {A : Type 0} (guests : List (Guest S)) (all : List (Named A)) → AllZip AreDigestsOf guests all
      → List (Guest (List (List ℕ)))
  reads_of [] all are = []
  reads_of (guest ∷ guests) [] are = []
  reads_of (guest ∷ guests) (named ∷ all) are = record { salt = guest.salt; source = are.0.lines.read } ∷ reads_of guests all are.1

  -- the texts, in the guests' order, are written of digests of these guests' pages
  pub record AreTextsOf {A : Type 0} (guests : List (Guest S)) (all : List (Named A)) (texts : List (List ℕ)) : Type 0 where
    pub digests : AllZip AreDigestsOf guests all
    pub written : AllZip IsTextOf all texts

-- The texts say the rows that were written, which are those of whole digests of these guests' pages. And if different contents have
-- different digests, as in `IsFleetOf`, the numbers that `merge` answers of the texts are those of a census of the pages, whether or not it
-- counts pairs.
pub record TextsMatchCensus {S A : Type 0} (B : Type 0) (pages : S → List (List ℕ)) (guests : List (Guest S)) (all : List (Named A))
    (texts : List (List ℕ)) : Type 0 where
  pub said : map digest_of texts ≡ map Ok (map written_rows all)
  pub rows : AllZip (AreRowsOf pages) guests (map written_rows all)
  pub merged : AreApart (contents pages guests ++ zeros guests) → (pairs : Pairs) (numbers : FleetNumbers B)
      → IsMerged (map digest_of texts) pairs (Ok numbers) → IsCensus pages guests numbers

-- What the texts list is a census of the pages that were read. Of steady sources these are the sources' pages, and what the texts list is
-- a census of these.
pub record TextsMatchReads {S A : Type 0} (B : Type 0) (is_steady : S → Type 0) (pages : S → List (List ℕ)) (guests : List (Guest S))
    (reads : List (Guest (List (List ℕ)))) (all : List (Named A)) (texts : List (List ℕ)) : Type 0 where
  pub census : TextsMatchCensus B (λ read. read) reads all texts
  pub same : AreSteady is_steady guests → reads ≡ map (with_pages pages) guests
  pub steady : AreSteady is_steady guests → TextsMatchCensus B pages guests all texts

-- A: the allocator of the digests; B: that of the numbers
abbrev pub TextLaw : {S : Type 0} → Type 0 → Type 0 → (S → Type 0) → (S → List (List ℕ)) → Type 0
TextLaw {S} A B is_steady pages =
    (guests : List (Guest S)) (all : List (Named A)) (texts : List (List ℕ)) (are : AreTextsOf is_steady pages guests all texts)
    → TextsMatchReads B is_steady pages guests (reads_of is_steady pages guests all are.digests) all texts
