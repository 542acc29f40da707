-- A merge of whole digests has the numbers of a census.
use Rattle.std.proofs.Common.{◌≡◌, ℕ, zero, suc, ◌<◌, List, [], ◌∷◌, ◌++◌, length, map, get_or, eqb, refl, inl, inr, arith}
use Rattle.std.specs.Prelude.{◌⊎◌, All}
use Rattle.std.specs.List.{AllZip, Contains}
use Rattle.std.proofs.lemmas.List.Elements.{All-contains_itself, All-weaker, Contains-append_left, Contains-append_right}
use Rattle.guest_digests.specs.declared.line.DigestLine.{DigestLine}
use Rattle.digest_text.specs.Reread.{head_by}
use Rattle.digest_text.specs.Written.{rows_of}
use Rattle.digest_text.specs.Fields.{Row}
use Rattle.page_census.specs.Contents.{Content, contents, contents_of}
use Rattle.page_census.specs.Numbers as census
use Rattle.page_census.specs.Numbers.{copies}
use Rattle.page_census.specs.declared.guest.Guest.{Guest}
use Rattle.fleet_census.specs.Fleets as merged
use Rattle.fleet_census.specs.Numbers.{IsSampleOf}
use Rattle.fleet_census.specs.Openings.{sample_of}
use Rattle.fleet_census.specs.Fleets.{all_copies}
use Rattle.fleet_laws.specs.Merges.{AreRowsOf, AreApart, DigestLaw, MergeLaw, MatchesGuest, digest, whole, zeros}
use Rattle.fleet_laws.proofs.Fleets.{AreAllCounts, all_copies_are, each_counts}
use Rattle.fleet_laws.proofs.Keys.{in_both}
use Rattle.fleet_laws.proofs.Table.{table_is}
use Rattle.fleet_laws.proofs.Matched.{guest_matches, total_matches}

module _ {S : Type 0} (pages : S → List (List ℕ)) where
  module _ (known : List Content) (apart : AreApart known) (fleet : List (List Row)) (all : List Content)
      (ka : All (Contains known) all) (of : (d : ℕ) → all_copies fleet d ≡ copies eqb d (map digest all)) where
    each_matches : (guests : List (Guest S)) (some : List (List Row)) → AreAllCounts pages guests some → All (Contains known) (contents pages guests)
        → AllZip MatchesGuest (map (merged.guest_numbers fleet) some) (map (λ (guest : Guest S). census.guest_numbers all (contents_of pages guest)) guests)
    each_matches [] [] each ks = tt
    each_matches [] (rows ∷ some) each ks = absurd each
    each_matches (guest ∷ guests) [] each ks = absurd each
    each_matches (guest ∷ guests) (rows ∷ some) each ks =
        let own : List Content = contents_of pages guest in
        let rest : List Content = contents pages guests in
        let both = in_both (Contains known) own rest ks in
        (guest_matches known apart fleet rows all own ka both.0 of each.0, each_matches guests some each.1 both.1)

  pub census_matches : DigestLaw pages
  census_matches guests fleet is =
      let all : List Content = contents pages guests in
      let zero : List Content = zeros guests in
      let known : List Content = all ++ zero in
      let ka : All (Contains known) all = All-weaker (Contains all) (Contains known) (λ c here. Contains-append_left all zero c here) all (All-contains_itself all) in
      let kz : All (Contains known) zero = All-weaker (Contains zero) (Contains known) (λ c here. Contains-append_right all zero c here) zero (All-contains_itself zero) in
      let each : AreAllCounts pages guests fleet = each_counts pages known is.apart guests fleet is.rows ka kz in
      let of : (d : ℕ) → all_copies fleet d ≡ copies eqb d (map digest all) = all_copies_are pages guests fleet each in
      record {
        guests_are = each_matches known is.apart fleet all ka of guests fleet each ka;
        total_is = total_matches known is.apart pages guests fleet each ka;
        copies_are = λ few. table_is known is.apart fleet all ka of few;
      }

  -- rows of a whole digest have its sample, if there is a row
  own_sample : (guest : Guest S) (rows : List Row) → AreRowsOf pages guest rows → (sample_of rows ≡ 0) ⊎ (sample_of rows ≡ 1)
  own_sample guest rows are = rw are.are (of_lines are.lines)
    where
      of_lines : (lines : List DigestLine) → let sample : ℕ = sample_of (rows_of (head_by are.name (whole guest.salt) (pages guest.source)) lines) in (sample ≡ 0) ⊎ (sample ≡ 1)
      of_lines [] = inl refl
      of_lines (line ∷ lines) = inr refl

  each_sample : (guests : List (Guest S)) (fleet : List (List Row)) → AllZip (AreRowsOf pages) guests fleet → (file : ℕ) → file < length fleet
      → (sample_of (get_or fleet file []) ≡ 0) ⊎ (sample_of (get_or fleet file []) ≡ 1)
  each_sample [] [] are file lt = absurd (omega (arith, lt))
  each_sample [] (rows ∷ fleet) are file lt = absurd are
  each_sample (guest ∷ guests) [] are file lt = absurd are
  each_sample (guest ∷ guests) (rows ∷ fleet) are zero lt = own_sample guest rows are.0
  each_sample (guest ∷ guests) (rows ∷ fleet) are (suc file) lt = each_sample guests fleet are.1 file (omega (arith, lt))

  sample_is : (guests : List (Guest S)) (fleet : List (List Row)) (sample : ℕ) → AllZip (AreRowsOf pages) guests fleet → IsSampleOf fleet sample → sample ≡ 1
  sample_is guests fleet sample are is = elim is.some [
    | inl one ↦ one
    | inr at ↦ elim (each_sample guests fleet are at.0 at.1) [
      | inl none ↦ absurd (omega (arith, none, at.2, is.least))
      | inr one ↦ omega (arith, one, at.2)
    ]
  ]

  pub merge_matches : {A : Type 0} → MergeLaw A pages
  merge_matches guests fleet pairs numbers is are = record {
    matches = rw (are.guests, are.total, are.copies) (census_matches guests fleet is);
    sample = sample_is guests fleet numbers.sample is.rows are.sample;
  }
