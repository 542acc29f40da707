-- What the rows of all guests list together.
use Rattle.std.proofs.Common.{◌≡◌, ℕ, zero, suc, ◌+◌, ◌-◌, ◌<◌, ◌≤◌, ◌^◌, min, cond, List, [], ◌∷◌, ◌++◌, length, length-append, map, eqb, ltb, refl, ap, sym, ◌∙◌, arith}
use Rattle.std.specs.Prelude.{All, filter, sum_by}
use Rattle.std.specs.List.{AllZip, Contains}
use Rattle.std.proofs.lemmas.Bool.{lt-ltb}
use Rattle.std.proofs.lemmas.List.{length-map, map-append}
use Rattle.std.proofs.lemmas.List.Elements.{All-head, All-map, All-tail, filter-append}
use Rattle.std.proofs.lemmas.List.Sums.{sum_by-append, sum_by-cons}
use Rattle.page_model.specs.Pages.{blank}
use Rattle.digest_text.specs.Fields.{Row}
use Rattle.page_census.specs.Contents.{Content, contents, contents_of, is_same}
use Rattle.page_census.specs.Numbers.{copies, distinct, guest_numbers, is_zero, sum_alone}
use Rattle.page_census.specs.declared.numbers.GuestNumbers.{GuestNumbers}
use Rattle.page_census.specs.declared.guest.Guest.{Guest}
use Rattle.fleet_census.specs.Amounts.{all_digests, sum_below}
use Rattle.fleet_census.specs.Fleets.{all_copies, all_holders, all_zero, copies_of, pages_of, zero_of}
use Rattle.fleet_laws.specs.Merges.{AreRowsOf, AreApart, digest, zeros}
use Rattle.fleet_laws.proofs.Contents.{distinct_by_digest}
use Rattle.fleet_laws.proofs.Digests.{digest_low}
use Rattle.fleet_laws.proofs.Guests.{AreCounts, guest_counts}
use Rattle.fleet_laws.proofs.Keys.{in_both}
use Rattle.fleet_laws.proofs.Sums.{both_sums, distinct_few, no_sum, once_counted, one_if, same_sum}

all_are : all_digests ≡ 2 ^ 128
unfolding all_digests
all_are = refl

pub digests_low : (cs : List Content) → All (λ k. k < all_digests) (map digest cs)
digests_low cs = rw all_are (All-map (λ (k : ℕ). k < 2 ^ 128) digest cs (λ k c lt. digest_low _ _))

-- copies of a digest in two lists
copies_apart : (d : ℕ) (xs ys : List Content) → copies eqb d (map digest (xs ++ ys)) ≡ copies eqb d (map digest xs) + copies eqb d (map digest ys)
copies_apart d xs ys = ap (copies eqb d) (map-append digest xs ys) ∙ sum_by-append (λ (k : ℕ). cond (eqb d k) 1 0) (map digest xs) (map digest ys)

-- one of two has copies
either : (c r h : ℕ) → min h 1 ≡ min r 1 → min (cond (ltb 0 c) 1 0 + h) 1 ≡ min (c + r) 1
either zero r h e = omega (arith, e)
either (suc c) r h e = rw (lt-ltb 0 (suc c) (omega arith)) (omega arith)

-- a digest has a holder where it has a copy
pub holders_some : (fleet : List (List Row)) (d : ℕ) → min (all_holders fleet d) 1 ≡ min (all_copies fleet d) 1
holders_some [] d = refl
holders_some (rows ∷ fleet) d =
    let h = sum_by-cons (λ (r : List Row). cond (ltb 0 (copies_of d r)) 1 0) rows fleet in
    let c = sum_by-cons (copies_of d) rows fleet in
    rw (h, c) (either (copies_of d rows) (all_copies fleet d) (all_holders fleet d) (holders_some fleet d))

module _ {S : Type 0} (pages : S → List (List ℕ)) where
  -- the rows of each guest count the digests of its contents
  abbrev pub AreAllCounts : List (Guest S) → List (List Row) → Type 0
  AreAllCounts guests fleet = AllZip (λ (guest : Guest S) (rows : List Row). AreCounts (contents_of pages guest) rows) guests fleet

  module _ (known : List Content) (apart : AreApart known) where
    pub each_counts : (guests : List (Guest S)) (fleet : List (List Row)) → AllZip (AreRowsOf pages) guests fleet
        → All (Contains known) (contents pages guests) → All (Contains known) (zeros guests) → AreAllCounts guests fleet
    each_counts [] [] are ks kz = tt
    each_counts [] (rows ∷ fleet) are ks kz = are
    each_counts (guest ∷ guests) [] are ks kz = are
    each_counts (guest ∷ guests) (rows ∷ fleet) are ks kz =
        let own : List Content = contents_of pages guest in
        let rest : List Content = contents pages guests in
        let zero : Content = (guest.salt, blank) in
        let both = in_both (Contains known) own rest ks in (
          guest_counts known apart pages guest rows (All-head (Contains known) zero (zeros guests) kz) both.0 are.0,
          each_counts guests fleet are.1 both.1 (All-tail (Contains known) zero (zeros guests) kz),
        )

    -- what the guests reclaim alone
    pub sum_alone_is : (all : List Content) (guests : List (Guest S)) → All (Contains known) (contents pages guests)
        → sum_alone (map (λ (guest : Guest S). guest_numbers all (contents_of pages guest)) guests)
        + sum_by (λ (guest : Guest S). distinct eqb (map digest (contents_of pages guest))) guests ≡ length (contents pages guests)
    sum_alone_is all [] ks = refl
    sum_alone_is all (guest ∷ guests) ks =
        let own : List Content = contents_of pages guest in
        let rest : List Content = contents pages guests in
        let both = in_both (Contains known) own rest ks in
        let numbers : List GuestNumbers = map (λ (guest : Guest S). guest_numbers all (contents_of pages guest)) guests in
        let sums : sum_alone (guest_numbers all own ∷ numbers) ≡ length own - distinct is_same own + sum_alone numbers =
        sum_by-cons (λ (n : GuestNumbers). n.alone) (guest_numbers all own) numbers in
        let more = sum_by-cons (λ (g : Guest S). distinct eqb (map digest (contents_of pages g))) guest guests in
        let same : distinct is_same own ≡ distinct eqb (map digest own) = distinct_by_digest known apart own both.0 in
        let few : distinct eqb (map digest own) ≤ length (map digest own) = distinct_few (map digest own) all_digests (digests_low own) in
        let len : length (own ++ rest) ≡ length own + length rest = length-append own rest in
        omega (arith, sums, more, same, few, len, length-map own digest, sum_alone_is all guests both.1)

  pub all_copies_are : (guests : List (Guest S)) (fleet : List (List Row)) → AreAllCounts guests fleet → (d : ℕ) → all_copies fleet d ≡ copies eqb d (map digest (contents pages guests))
  all_copies_are [] [] each d = refl
  all_copies_are [] (rows ∷ fleet) each d = absurd each
  all_copies_are (guest ∷ guests) [] each d = absurd each
  all_copies_are (guest ∷ guests) (rows ∷ fleet) each d =
      sum_by-cons (copies_of d) rows fleet ∙ rw (each.0.copies_are d, all_copies_are guests fleet each.1 d) (sym (copies_apart d (contents_of pages guest) (contents pages guests)))

  pub all_zero_are : (guests : List (Guest S)) (fleet : List (List Row)) → AreAllCounts guests fleet → (d : ℕ) → all_zero fleet d ≡ copies eqb d (map digest (filter is_zero (contents pages guests)))
  all_zero_are [] [] each d = refl
  all_zero_are [] (rows ∷ fleet) each d = absurd each
  all_zero_are (guest ∷ guests) [] each d = absurd each
  all_zero_are (guest ∷ guests) (rows ∷ fleet) each d =
      let own : List Content = contents_of pages guest in
      let rest : List Content = contents pages guests in
      sum_by-cons (zero_of d) rows fleet
      ∙ rw (each.0.zero_are d, all_zero_are guests fleet each.1 d) (
      sym (ap (λ (cs : List Content). copies eqb d (map digest cs)) (filter-append is_zero own rest) ∙ copies_apart d (filter is_zero own) (filter is_zero rest)))

  pub all_pages_are : (guests : List (Guest S)) (fleet : List (List Row)) → AreAllCounts guests fleet → sum_by pages_of fleet ≡ length (contents pages guests)
  all_pages_are [] [] each = refl
  all_pages_are [] (rows ∷ fleet) each = absurd each
  all_pages_are (guest ∷ guests) [] each = absurd each
  all_pages_are (guest ∷ guests) (rows ∷ fleet) each =
      let own : List Content = contents_of pages guest in
      let rest : List Content = contents pages guests in
      let len : length (own ++ rest) ≡ length own + length rest = length-append own rest in
      omega (arith, sum_by-cons pages_of rows fleet, each.0.pages_are, all_pages_are guests fleet each.1, len)

  -- the holders of all digests
  pub holders_sum : (guests : List (Guest S)) (fleet : List (List Row)) → AreAllCounts guests fleet
      → sum_below (all_holders fleet) all_digests ≡ sum_by (λ (guest : Guest S). distinct eqb (map digest (contents_of pages guest))) guests
  holders_sum [] [] each = no_sum all_digests
  holders_sum [] (rows ∷ fleet) each = absurd each
  holders_sum (guest ∷ guests) [] each = absurd each
  holders_sum (guest ∷ guests) (rows ∷ fleet) each =
      let own : List Content = contents_of pages guest in
      let here = once_counted (map digest own) all_digests (digests_low own) in
      let split = same_sum (all_holders (rows ∷ fleet)) (λ d. min (copies eqb d (map digest own)) 1 + all_holders fleet d) all_digests (λ d.
      sum_by-cons (λ (r : List Row). cond (ltb 0 (copies_of d r)) 1 0) rows fleet
      ∙ ap (λ (m : ℕ). m + all_holders fleet d) (ap (λ (m : ℕ). cond (ltb 0 m) 1 0) (each.0.copies_are d) ∙ sym (one_if (copies eqb d (map digest own))))) in
      let both = both_sums (λ d. min (copies eqb d (map digest own)) 1) (all_holders fleet) all_digests in
      let more = sum_by-cons (λ (g : Guest S). distinct eqb (map digest (contents_of pages g))) guest guests in
      omega (arith, here, split, both, more, holders_sum guests fleet each.1)
