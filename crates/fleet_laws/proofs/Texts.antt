-- From pages over digests' texts to the numbers of a census.
use lib.Count.{ones, ones_in}
use Rattle.std.proofs.Common.{◌≡◌, ℕ, ◌<◌, ◌≤◌, ◌^◌, ◌==◌, cond, List, [], ◌∷◌, map, get_or, Ok, refl, ap, sym, ◌∙◌, inl, inr, arith}
use Rattle.std.specs.Prelude.{⊤, All}
use Rattle.std.specs.List.{AllZip}
use Rattle.std.proofs.lemmas.Bool.{cases_Bool, eq-eqb, eqb-true}
use Rattle.std.proofs.lemmas.List.Elements.{All-head, All-map, All-tail}
use Rattle.std.proofs.lemmas.List.Sums.{get_or-le-sum_by, sum_by-cons}
use Rattle.page_digest.specs.Hashes.{content_digest}
use Rattle.guest_digests.specs.Counted.{AreCounted, count_of}
use Rattle.guest_digests.specs.Samples.{IsSample, digests_of, kept_digests}
use Rattle.guest_digests.specs.declared.line.DigestLine.{DigestLine}
use Rattle.digest_text.proofs.Counts.{digests_are_lines}
use Rattle.digest_text.proofs.Reread.{rereads}
use Rattle.digest_text.specs.Fields.{Row}
use Rattle.digest_text.specs.Reread.{IsHead, head_by}
use Rattle.digest_text.specs.Rows.{digest_of}
use Rattle.digest_text.specs.Written.{head_for, rows_of, rows_text}
use Rattle.digest_text.specs.declared.head.DigestHead.{DigestHead}
use Rattle.page_census.specs.declared.guest.Guest.{Guest}
use Rattle.page_census.specs.Contents.{AreSteady}
use Rattle.fleet_census.specs.Numbers.{AreNumbers, IsMerged, fleet_of}
use Rattle.fleet_census.specs.States.{Said}
use Rattle.fleet_census.specs.declared.numbers.FleetNumbers.{FleetNumbers}
use Rattle.fleet_census.specs.declared.pair.Pairs.{Pairs}
use Rattle.fleet_laws.specs.Merges.{AreRowsOf, IsFleetOf, whole}
use Rattle.fleet_laws.specs.Texts.{AreDigestsOf, IsTextOf, Named, TextsMatchCensus, TextLaw, reads_of, with_pages, written_rows}
use Rattle.fleet_laws.proofs.Digests.{digest_low}
use Rattle.fleet_laws.proofs.Guests.{all_kept}
use Rattle.fleet_laws.proofs.Merges.{merge_matches}

one_sample : IsSample 1
unfolding ones ones_in
one_sample = record { some = omega arith; most = omega arith; power = refl }

-- what is counted among numbers that are low, is low
low_counted : (n d : ℕ) (ds : List ℕ) → All (λ k. k < n) ds → 1 ≤ count_of d ds → d < n
low_counted n d [] low some = absurd (omega (arith, some))
low_counted n d (x ∷ ds) low some = elim (cases_Bool (x == d)) [
  | inl same ↦ let e : x ≡ d = eqb-true x d same in omega (arith, e, All-head (λ (k : ℕ). k < n) x ds low)
  | inr other ↦
      let none : count_of d (x ∷ ds) ≡ count_of d ds = sum_by-cons (λ (y : ℕ). cond (y == d) 1 0) x ds ∙ rw other (omega arith) in
      low_counted n d ds (All-tail (λ (k : ℕ). k < n) x ds low) (omega (arith, some, none))
]

-- lines that count digests have 128 bits
lines_low : (salt : ℕ) (pages : List (List ℕ)) (lines : List DigestLine) → AreCounted (kept_digests (whole salt) pages) lines
    → All (λ line. line.digest < 2 ^ 128) lines
lines_low salt pages lines c k d within =
    let ds : List ℕ = digests_of salt pages in
    let digest : ℕ = (get_or lines k d).digest in
    let low : All (λ k. k < 2 ^ 128) ds = All-map (λ (k : ℕ). k < 2 ^ 128) (content_digest salt) pages (λ i page lt. digest_low _ _) in
    let listed = get_or-le-sum_by (λ (line : DigestLine). cond (line.digest == digest) line.copies 0) lines k d within in
    let own : cond (digest == digest) (get_or lines k d).copies 0 ≡ (get_or lines k d).copies = rw (eq-eqb digest digest refl) refl in
    let kept : count_of digest (kept_digests (whole salt) pages) ≡ count_of digest ds = ap (count_of digest) (all_kept salt ds) in
    low_counted (2 ^ 128) digest ds low (omega (arith, listed, own, c.some k d within, c.copies digest, kept))

module _ {S A : Type 0} (is_steady : S → Type 0) (pages : S → List (List ℕ)) where
  -- the head of the rows
  head_is : (guest : Guest S) (named : Named A) → AreDigestsOf is_steady pages guest named
      → head_for named.name named.digests ≡ head_by named.name (whole guest.salt) (pages guest.source)
  head_is guest named are = rw (are.sampling, are.count) refl

  counted : (guest : Guest S) (named : Named A) → is_steady guest.source → AreDigestsOf is_steady pages guest named
      → AreCounted (kept_digests (whole guest.salt) (pages guest.source)) named.digests.lines.items
  counted guest named steady are = rw (are.lines.same steady) at are.lines.counted

  -- the rows are those of the guest
  rows_are : (guest : Guest S) (named : Named A) → is_steady guest.source → AreDigestsOf is_steady pages guest named
      → AreRowsOf pages guest (written_rows named)
  rows_are guest named steady are = record {
    name = named.name;
    lines = named.digests.lines.items;
    counted = counted guest named steady are;
    are = ap (λ (head : DigestHead). rows_of head named.digests.lines.items) (head_is guest named are);
  }

  -- and the text says them
  text_said : (guest : Guest S) (named : Named A) (text : List ℕ) → is_steady guest.source → AreDigestsOf is_steady pages guest named
      → IsTextOf named text → digest_of text ≡ Ok (written_rows named)
  text_said guest named text steady are written =
      let head : DigestHead = head_by named.name (whole guest.salt) (pages guest.source) in
      let lines : List DigestLine = named.digests.lines.items in
      let c = counted guest named steady are in
      let is : IsHead head = record { name = are.name; salt = are.salt; pages = omega (arith, are.fits, are.count); sample = one_sample } in
      let said : digest_of (rows_text head lines) ≡ Ok (rows_of head lines) =
      rereads head lines is (digests_are_lines named.name (whole guest.salt) (pages guest.source) lines (lines_low guest.salt (pages guest.source) lines c) c) in
      ap digest_of written ∙ rw (head_is guest named are) said

  -- of all guests
  all_rows : (guests : List (Guest S)) (all : List (Named A)) → AreSteady is_steady guests → AllZip (AreDigestsOf is_steady pages) guests all
      → AllZip (AreRowsOf pages) guests (map written_rows all)
  all_rows [] [] steady are = tt
  all_rows [] (named ∷ all) steady are = absurd are
  all_rows (guest ∷ guests) [] steady are = absurd are
  all_rows (guest ∷ guests) (named ∷ all) steady are =
      let P : Guest S → Type 0 = λ g. is_steady g.source in
      (rows_are guest named (All-head P guest guests steady) are.0, all_rows guests all (All-tail P guest guests steady) are.1)

  all_said : (guests : List (Guest S)) (all : List (Named A)) (texts : List (List ℕ)) → AreSteady is_steady guests
      → AllZip (AreDigestsOf is_steady pages) guests all → AllZip IsTextOf all texts → map digest_of texts ≡ map Ok (map written_rows all)
  all_said [] [] [] steady are written = refl
  all_said [] [] (text ∷ texts) steady are written = absurd written
  all_said [] (named ∷ all) texts steady are written = absurd are
  all_said (guest ∷ guests) [] texts steady are written = absurd are
  all_said (guest ∷ guests) (named ∷ all) [] steady are written = absurd written
  all_said (guest ∷ guests) (named ∷ all) (text ∷ texts) steady are written =
      let P : Guest S → Type 0 = λ g. is_steady g.source in
      rw (
        text_said guest named text (All-head P guest guests steady) are.0 written.0,
        all_said guests all texts (All-tail P guest guests steady) are.1 written.1,
      ) refl

-- the fleet of files that say rows
fleet_is : (fleet : List (List Row)) → fleet_of (map Ok fleet) ≡ fleet
fleet_is [] = refl
fleet_is (rows ∷ fleet) = ap (λ (more : List (List Row)). rows ∷ more) (fleet_is fleet)

-- what `merge` answers of such files
merged_numbers : {B : Type 0} (files : List Said) (fleet : List (List Row)) (pairs : Pairs) (numbers : FleetNumbers B) → files ≡ map Ok fleet
    → IsMerged files pairs (Ok numbers) → AreNumbers fleet pairs numbers
merged_numbers files fleet pairs numbers said merged =
    let is : fleet_of files ≡ fleet = ap fleet_of said ∙ fleet_is fleet in
    rw is at merged.1

-- of guests whose sources are steady
steady_texts : {S A B : Type 0} (is_steady : S → Type 0) (pages : S → List (List ℕ)) (guests : List (Guest S)) (all : List (Named A))
    (texts : List (List ℕ)) → AreSteady is_steady guests → AllZip (AreDigestsOf is_steady pages) guests all → AllZip IsTextOf all texts
    → TextsMatchCensus B pages guests all texts
steady_texts is_steady pages guests all texts steady are written =
    let fleet : List (List Row) = map written_rows all in
    let said = all_said is_steady pages guests all texts steady are written in
    let rows = all_rows is_steady pages guests all steady are in
    record {
      said = said;
      rows = rows;
      merged = λ apart pairs numbers merged.
          let is : IsFleetOf pages guests fleet = record { rows = rows; apart = apart } in
          merge_matches pages guests fleet pairs numbers is (merged_numbers (map digest_of texts) fleet pairs numbers said merged);
    }

-- what was read, as a source: each read of it returns the same
abbrev ReadSteady : List (List ℕ) → Type 0
ReadSteady read = ⊤

abbrev itself : List (List ℕ) → List (List ℕ)
itself read = read

all_steady : (reads : List (Guest (List (List ℕ)))) → AreSteady ReadSteady reads
all_steady reads i d lt = tt

module _ {S A : Type 0} (is_steady : S → Type 0) (pages : S → List (List ℕ)) where
  -- the digests are those of what was read
  digests_read : (guests : List (Guest S)) (all : List (Named A)) (are : AllZip (AreDigestsOf is_steady pages) guests all)
      → AllZip (AreDigestsOf ReadSteady itself) (reads_of is_steady pages guests all are) all
  digests_read [] [] are = tt
  digests_read [] (named ∷ all) are = absurd are
  digests_read (guest ∷ guests) [] are = absurd are
  digests_read (guest ∷ guests) (named ∷ all) are = (
    record {
      name = are.0.name;
      salt = are.0.salt;
      fits = are.0.fits;
      sampling = are.0.sampling;
      count = are.0.count ∙ sym are.0.lines.all;
      lines = record { read = are.0.lines.read; all = refl; same = λ steady. refl; counted = are.0.lines.counted };
    },
    digests_read guests all are.1,
  )

  -- of steady sources the pages were read
  pages_read : (guests : List (Guest S)) (all : List (Named A)) (are : AllZip (AreDigestsOf is_steady pages) guests all)
      → AreSteady is_steady guests → reads_of is_steady pages guests all are ≡ map (with_pages pages) guests
  pages_read [] [] are steady = refl
  pages_read [] (named ∷ all) are steady = absurd are
  pages_read (guest ∷ guests) [] are steady = absurd are
  pages_read (guest ∷ guests) (named ∷ all) are steady =
      let P : Guest S → Type 0 = λ g. is_steady g.source in
      rw (are.0.lines.same (All-head P guest guests steady), pages_read guests all are.1 (All-tail P guest guests steady)) refl

pub texts_match : {S A B : Type 0} (is_steady : S → Type 0) (pages : S → List (List ℕ)) → TextLaw A B is_steady pages
texts_match is_steady pages guests all texts are =
    let reads : List (Guest (List (List ℕ))) = reads_of is_steady pages guests all are.digests in
    let digests = digests_read is_steady pages guests all are.digests in
    record {
      census = steady_texts ReadSteady itself reads all texts (all_steady reads) digests are.written;
      same = pages_read is_steady pages guests all are.digests;
      steady = λ steady. steady_texts is_steady pages guests all texts steady are.digests are.written;
    }
