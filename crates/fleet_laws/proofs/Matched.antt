-- The numbers of a merge of whole digests, one by one.
use Rattle.std.proofs.Common.{◌≡◌, ℕ, ◌-◌, min, Bool, cond, List, length, map, eqb, ltb, refl, ap, sym, ◌∙◌, arith}
use Rattle.std.specs.Prelude.{All, count_by, filter}
use Rattle.std.specs.List.{Contains}
use Rattle.std.proofs.lemmas.List.{length-map}
use Rattle.std.proofs.lemmas.List.Elements.{All-filter, filter_passes}
use Rattle.std.proofs.lemmas.List.Sums.{length-filter}
use Rattle.digest_text.specs.Fields.{Row}
use Rattle.page_census.specs.Contents.{Content, contents, contents_of, is_same}
use Rattle.page_census.specs.Numbers.{copies, distinct, guest_numbers, is_zero, sum_alone, total_numbers, zero_salts}
use Rattle.page_census.specs.declared.guest.Guest.{Guest}
use Rattle.page_census.proofs.Totals.{salts_apart}
use Rattle.fleet_census.specs.Amounts.{all_digests, sum_below}
use Rattle.fleet_census.specs.Fleets as merged
use Rattle.fleet_census.specs.Fleets.{all_copies, all_holders, all_zero, copies_of, is_zeros, zero_of}
use Rattle.fleet_laws.specs.Merges.{AreApart, MatchesGuest, MatchesTotal, digest}
use Rattle.fleet_laws.proofs.Contents.{distinct_by_digest, shared_by_digest}
use Rattle.fleet_laws.proofs.Fleets.{AreAllCounts, all_copies_are, all_pages_are, all_zero_are, digests_low, holders_some, holders_sum, sum_alone_is}
use Rattle.fleet_laws.proofs.Guests.{AreCounts}
use Rattle.fleet_laws.proofs.Sums.{all_counted, but_one_counted, estimate_is, less_one, once_counted, passing, same_sum}

-- by what the digests of these contents give
module _ (own : List Content) where
  abbrev ds : List ℕ
  ds = map digest own

  pub sum_copies : (f : ℕ → ℕ) → ((d : ℕ) → f d ≡ copies eqb d ds) → sum_below f all_digests ≡ length own
  sum_copies f e = same_sum f (λ d. copies eqb d ds) all_digests e ∙ all_counted ds all_digests (digests_low own) ∙ length-map own digest

  pub sum_once : (f : ℕ → ℕ) → ((d : ℕ) → f d ≡ copies eqb d ds) → sum_below (λ d. min (f d) 1) all_digests ≡ distinct eqb ds
  sum_once f e = same_sum (λ d. min (f d) 1) (λ d. min (copies eqb d ds) 1) all_digests (λ d. ap (λ (m : ℕ). min m 1) (e d)) ∙ once_counted ds all_digests (digests_low own)

  pub sum_but_one : (f : ℕ → ℕ) → ((d : ℕ) → f d ≡ copies eqb d ds) → sum_below (λ d. f d - 1) all_digests ≡ length own - distinct eqb ds
  sum_but_one f e =
      same_sum (λ d. f d - 1) (λ d. copies eqb d ds - 1) all_digests (λ d. ap (λ (m : ℕ). m - 1) (e d))
      ∙ but_one_counted ds all_digests (digests_low own)
      ∙ ap (λ (m : ℕ). m - distinct eqb ds) (length-map own digest)

  pub sum_passing : (q : ℕ → Bool) (p : ℕ → Bool) (f : ℕ → ℕ) → ((d : ℕ) → p d ≡ q d) → ((d : ℕ) → f d ≡ copies eqb d ds) → sum_below (λ d. cond (p d) (f d) 0) all_digests ≡ count_by q ds
  sum_passing q p f agree e =
      same_sum (λ d. cond (p d) (f d) 0) (λ d. cond (q d) (copies eqb d ds) 0) all_digests (λ d. rw (agree d, e d) refl) ∙ passing ds all_digests (digests_low own) q

module _ (known : List Content) (apart : AreApart known) where
  -- a guest
  pub guest_matches : (fleet : List (List Row)) (rows : List Row) (all own : List Content) → All (Contains known) all → All (Contains known) own
      → ((d : ℕ) → all_copies fleet d ≡ copies eqb d (map digest all)) → AreCounts own rows → MatchesGuest (merged.guest_numbers fleet rows) (guest_numbers all own)
  guest_matches fleet rows all own ka ko total counts = record {
    pages = counts.pages_are;
    zero = sum_copies (filter is_zero own) (λ d. zero_of d rows) counts.zero_are ∙ length-filter is_zero own;
    distinct = estimate_is (is_zeros fleet) (λ d. min (copies_of d rows) 1) all_digests ∙ sum_once own (λ d. copies_of d rows) counts.copies_are ∙ sym (distinct_by_digest known apart own ko);
    shared =
        estimate_is (is_zeros fleet) (λ d. cond (ltb 1 (all_copies fleet d)) (copies_of d rows) 0) all_digests
        ∙ sum_passing own (λ d. ltb 1 (copies eqb d (map digest all))) (λ d. ltb 1 (all_copies fleet d)) (λ d. copies_of d rows) (λ d. ap (ltb 1) (total d)) counts.copies_are
        ∙ sym (shared_by_digest known apart all own ka ko);
    alone =
        estimate_is (is_zeros fleet) (λ d. copies_of d rows - 1) all_digests
        ∙ sum_but_one own (λ d. copies_of d rows) counts.copies_are
        ∙ ap (λ (m : ℕ). length own - m) (sym (distinct_by_digest known apart own ko));
  }

  -- all guests
  module _ {S : Type 0} (pages : S → List (List ℕ)) (guests : List (Guest S)) (fleet : List (List Row))
      (each : AreAllCounts pages guests fleet) (ka : All (Contains known) (contents pages guests)) where
    abbrev all : List Content
    all = contents pages guests

    of : (d : ℕ) → all_copies fleet d ≡ copies eqb d (map digest all)
    of = all_copies_are pages guests fleet each

    -- how often sharing saves a page of zeros
    zeros_saved : sum_below (λ d. all_zero fleet d - 1) all_digests ≡ count_by is_zero all - zero_salts all
    zeros_saved =
        let kz : All (Contains known) (filter is_zero all) = All-filter is_zero (Contains known) all ka in
        sum_but_one (filter is_zero all) (all_zero fleet) (all_zero_are pages guests fleet each)
        ∙ rw (length-filter is_zero all, ← (distinct_by_digest known apart (filter is_zero all) kz), salts_apart (filter is_zero all) (filter_passes is_zero all)) refl

    -- and how often only sharing between guests does
    between_saved : sum_below (λ d. all_holders fleet d - 1) all_digests ≡ length all - distinct is_same all
        - sum_alone (map (λ (guest : Guest S). guest_numbers all (contents_of pages guest)) guests)
    between_saved =
        let whole = less_one (all_holders fleet) all_digests in
        let once = same_sum (λ d. min (all_holders fleet d) 1) (λ d. min (all_copies fleet d) 1) all_digests (holders_some fleet) ∙ sum_once all (all_copies fleet) of in
        let held = holders_sum pages guests fleet each in
        let alone = sum_alone_is pages known apart all guests ka in
        let same = distinct_by_digest known apart all ka in
        omega (arith, whole, once, held, alone, same)

    pub total_matches : MatchesTotal (merged.total_numbers fleet) (total_numbers pages guests)
    total_matches = record {
      pages = all_pages_are pages guests fleet each;
      zero = sum_copies (filter is_zero all) (all_zero fleet) (all_zero_are pages guests fleet each) ∙ length-filter is_zero all;
      shared =
          estimate_is (is_zeros fleet) (λ d. cond (ltb 1 (all_copies fleet d)) (all_copies fleet d) 0) all_digests
          ∙ sum_passing all (λ d. ltb 1 (copies eqb d (map digest all))) (λ d. ltb 1 (all_copies fleet d)) (all_copies fleet) (λ d. ap (ltb 1) (of d)) of
          ∙ sym (shared_by_digest known apart all all ka ka);
      frames = estimate_is (is_zeros fleet) (λ d. min (all_copies fleet d) 1) all_digests ∙ sum_once all (all_copies fleet) of ∙ sym (distinct_by_digest known apart all ka);
      reclaimed =
          estimate_is (is_zeros fleet) (λ d. all_copies fleet d - 1) all_digests
          ∙ sum_but_one all (all_copies fleet) of
          ∙ ap (λ (m : ℕ). length all - m) (sym (distinct_by_digest known apart all ka));
      zero_reclaimed = zeros_saved;
      between = estimate_is (is_zeros fleet) (λ d. all_holders fleet d - 1) all_digests ∙ between_saved;
    }
