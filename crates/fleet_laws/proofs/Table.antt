-- The classes of copies.
use Rattle.std.proofs.Common.{◌≡◌, ℕ, ◌+◌, ◌-◌, ◌<◌, ◌≤◌, ◌^◌, min, Bool, true, false, ◌&&◌, cond, List, [], ◌∷◌, ◌++◌, length, map, get_or, eqb, ltb, leb, refl, ap, sym, ◌∙◌, inl, inr, arith}
use Rattle.std.specs.Prelude.{All, count_by, filter}
use Rattle.std.specs.List.{Contains, range_with_len}
use Rattle.std.proofs.lemmas.Bool.{and_left, and_parts, false≢true, le-leb, leb-true, lt-leb, lt-ltb, true≢false}
use Rattle.std.proofs.lemmas.Bool.Decides.{leb_tells}
use Rattle.std.proofs.lemmas.List.{append-nil, length-map, map-append}
use Rattle.std.proofs.lemmas.List.Elements.{All-filter, All-head, All-tail, filter-append}
use Rattle.std.proofs.lemmas.List.FromFn.{get_or-range_with_len}
use Rattle.std.proofs.lemmas.List.Sums.{count_by-le-length}
use Rattle.std.proofs.Math.Pow.{pow_mono}
use Rattle.digest_text.specs.Fields.{Row}
use Rattle.page_census.specs.Contents.{Content, is_same}
use Rattle.page_census.specs.Numbers as census
use Rattle.page_census.specs.Numbers.{copies, copies_class, distinct, has_copies, is_between}
use Rattle.page_census.specs.declared.table.CopiesClass.{CopiesClass}
use Rattle.fleet_census.specs.Amounts.{all_digests, estimate}
use Rattle.fleet_census.specs.Classes.{has_contents, is_in_class}
use Rattle.fleet_census.specs.Fleets as merged
use Rattle.fleet_census.specs.Fleets.{all_copies, class_below, is_zeros}
use Rattle.fleet_census.specs.declared.class.FleetClass.{FleetClass}
use Rattle.fleet_laws.specs.Merges.{AreApart, as_counted, digest}
use Rattle.fleet_laws.proofs.Contents.{copies_by_digest, distinct_by_digest}
use Rattle.fleet_laws.proofs.Fleets.{digests_low}
use Rattle.fleet_laws.proofs.Keys.{filter_by, passing_by}
use Rattle.fleet_laws.proofs.Sums.{estimate_is, once_passing, same_sum}
use Rattle.fleet_laws.proofs.Matched.{sum_passing}

-- up to the greatest number of a census, the last numbers of a class are the same
same_end : (c p : ℕ) → c < 2 ^ 32 → leb c (min p (2 ^ 64 - 1)) ≡ leb c (min p (2 ^ 32 - 1))
same_end c p few = elim (leb_tells c p) [
  | inl within ↦ le-leb c (min p (2 ^ 64 - 1)) (omega (arith, few, within.1)) ∙ sym (le-leb c (min p (2 ^ 32 - 1)) (omega (arith, few, within.1)))
  | inr past ↦ lt-leb c (min p (2 ^ 64 - 1)) (omega (arith, few, past.1)) ∙ sym (lt-leb c (min p (2 ^ 32 - 1)) (omega (arith, few, past.1)))
]

ends : (p : ℕ) → min (min p (2 ^ 64 - 1)) (2 ^ 32 - 1) ≡ min p (2 ^ 32 - 1)
ends p = omega arith

filter_none : {X : Type 0} (p : X → Bool) (xs : List X) → ((x : X) → p x ≡ false) → filter p xs ≡ []
filter_none p [] none = refl
filter_none p (x ∷ xs) none = rw (none x, filter_none p xs none) refl

-- a class that a census has no number for
module _ (all : List Content) (few : length all < 2 ^ 32) (number : ℕ) (high : 33 ≤ number) where
  none_so_many : (c : Content) → has_copies all (census.fewest number) (census.most number) c ≡ false
  none_so_many c =
      let most : 2 ^ 33 ≤ 2 ^ number = pow_mono {i = 33} {j = number} high in
      let within : copies is_same c all ≤ length all = count_by-le-length (is_same c) all in
      and_left (leb (census.fewest number) (copies is_same c all)) (leb (copies is_same c all) (census.most number)) (
      lt-leb (census.fewest number) (copies is_same c all) (omega (arith, most, within, few)))

  no_contents : census.has_contents (copies_class all (census.fewest number) (census.most number)) ≡ false
  no_contents = ap (λ (cs : List Content). ltb 0 (distinct is_same cs)) (filter_none (has_copies all (census.fewest number) (census.most number)) all none_so_many)

abbrev class_with_number : List Content → ℕ → CopiesClass
class_with_number all number = copies_class all (census.fewest number) (census.most number)

no_more : (all : List Content) → length all < 2 ^ 32 → (numbers : List ℕ) → All (λ number. 33 ≤ number) numbers → filter census.has_contents (map (class_with_number all) numbers) ≡ []
no_more all few [] high = refl
no_more all few (number ∷ numbers) high =
    rw (no_contents all few number (All-head (λ (n : ℕ). 33 ≤ n) number numbers high)) (no_more all few numbers (All-tail (λ (n : ℕ). 33 ≤ n) number numbers high))

all_numbers : merged.class_numbers ≡ census.class_numbers ++ range_with_len 33 32
unfolding merged.class_numbers census.class_numbers
all_numbers = refl

some_contents : (class : FleetClass) → has_contents class ≡ census.has_contents (as_counted class)
some_contents class = let e : class.contents.zeros + class.contents.others ≡ estimate class.contents 1 = omega arith in ap (ltb 0) e

module _ (known : List Content) (apart : AreApart known) (fleet : List (List Row)) (all : List Content) (ka : All (Contains known) all)
    (of : (d : ℕ) → all_copies fleet d ≡ copies eqb d (map digest all)) (few : length all < 2 ^ 32) where
  abbrev is_in : ℕ → ℕ → Bool
  is_in number d = is_between (census.fewest number) (census.most number) (copies eqb d (map digest all))

  in_class : (number d : ℕ) → is_in_class (all_copies fleet d) number ≡ is_in number d
  in_class number d =
      let within : copies eqb d (map digest all) ≤ length (map digest all) = count_by-le-length (eqb d) (map digest all) in
      let low : copies eqb d (map digest all) < 2 ^ 32 = omega (arith, within, length-map all digest, few) in
      ap (λ (c : ℕ). is_in_class c number) (of d) ∙ ap (λ (t : Bool). leb (census.fewest number) (copies eqb d (map digest all)) && t) (same_end (copies eqb d (map digest all)) (2 ^ number) low)

  in_some : (number d : ℕ) → is_in number d ≡ true → ltb 0 (copies eqb d (map digest all)) ≡ true
  in_some number d e =
      let both = and_parts (leb (census.fewest number) (copies eqb d (map digest all))) (leb (copies eqb d (map digest all)) (census.most number)) e in
      let least : census.fewest number ≤ copies eqb d (map digest all) = leb-true (census.fewest number) (copies eqb d (map digest all)) both.0 in
      lt-ltb 0 (copies eqb d (map digest all)) (omega (arith, least))

  class_is : (number : ℕ) → as_counted (class_below fleet all_digests number) ≡ class_with_number all number
  class_is number =
      let passes : Content → Bool = has_copies all (census.fewest number) (census.most number) in
      let agree : All (λ c. passes c ≡ is_in number (digest c)) all = λ i d lt.
      ap (is_between (census.fewest number) (census.most number)) (copies_by_digest known apart (get_or all i d) (ka i d lt) all ka) in
      let contents : estimate (class_below fleet all_digests number).contents 1 ≡ distinct is_same (filter passes all) =
      estimate_is (is_zeros fleet) (λ d. cond (is_in_class (all_copies fleet d) number) 1 0) all_digests
      ∙ same_sum (λ d. cond (is_in_class (all_copies fleet d) number) 1 0) (λ d. cond (is_in number d) 1 0) all_digests (λ d. ap (λ (t : Bool). cond t 1 0) (in_class number d))
      ∙ once_passing (map digest all) all_digests (digests_low all) (is_in number) (in_some number)
      ∙ sym (distinct_by_digest known apart (filter passes all) (All-filter passes (Contains known) all ka) ∙ ap (distinct eqb) (filter_by digest passes (is_in number) all agree)) in
      let pages : estimate (class_below fleet all_digests number).pages 1 ≡ count_by passes all =
      estimate_is (is_zeros fleet) (λ d. cond (is_in_class (all_copies fleet d) number) (all_copies fleet d) 0) all_digests
      ∙ sum_passing all (is_in number) (λ d. is_in_class (all_copies fleet d) number) (all_copies fleet) (in_class number) of
      ∙ sym (passing_by digest passes (is_in number) all agree) in
      rw (contents, pages, ends (2 ^ number)) refl

  -- a class is left out here where it is there
  left_out : (a b : Bool) (class : FleetClass) (classes : List FleetClass) (row : CopiesClass) (rows : List CopiesClass) → a ≡ b → as_counted class ≡ row → map as_counted classes ≡ rows
      → map as_counted (cond a (class ∷ classes) classes) ≡ cond b (row ∷ rows) rows
  left_out true true class classes row rows e is are = rw (is, are) refl
  left_out false false class classes row rows e is are = are
  left_out true false class classes row rows e is are = absurd (true≢false e)
  left_out false true class classes row rows e is are = absurd (false≢true e)

  rows_are : (numbers : List ℕ) → map as_counted (filter has_contents (map (class_below fleet all_digests) numbers)) ≡ filter census.has_contents (map (class_with_number all) numbers)
  rows_are [] = refl
  rows_are (number ∷ numbers) =
      let class : FleetClass = class_below fleet all_digests number in
      let row : CopiesClass = class_with_number all number in
      left_out (has_contents class) (census.has_contents row) class (filter has_contents (map (class_below fleet all_digests) numbers)) row
      (filter census.has_contents (map (class_with_number all) numbers))
      (some_contents class ∙ ap census.has_contents (class_is number)) (class_is number) (rows_are numbers)

  -- the table of a merge is that of a census
  pub table_is : map as_counted (merged.copies_table fleet) ≡ census.copies_table all
  table_is =
      let rest : List ℕ = range_with_len 33 32 in
      let high : All (λ number. 33 ≤ number) rest = λ i d lt. omega (arith, get_or-range_with_len 33 32 i d lt) in
      let row : ℕ → CopiesClass = class_with_number all in
      rows_are merged.class_numbers
      ∙ ap (λ (ns : List ℕ). filter census.has_contents (map row ns)) all_numbers
      ∙ ap (filter census.has_contents) (map-append row census.class_numbers rest)
      ∙ filter-append census.has_contents (map row census.class_numbers) (map row rest)
      ∙ ap (λ (rs : List CopiesClass). filter census.has_contents (map row census.class_numbers) ++ rs) (no_more all few rest high)
      ∙ append-nil (filter census.has_contents (map row census.class_numbers))
