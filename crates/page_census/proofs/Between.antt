-- What the guests reclaim alone is within what all reclaim.
use Rattle.std.proofs.Common.{◌≡◌, ℕ, ◌+◌, ◌-◌, ◌≤◌, Bool, true, false, ◌||◌, cond, List, [], ◌∷◌, ◌++◌, length, length-append, map, arith}
use Rattle.std.specs.List.{list_any}
use Rattle.std.proofs.lemmas.List.Folds.{list_any-append}
use Rattle.std.proofs.lemmas.List.Sums.{sum_by-cons}
use Rattle.page_census.specs.Contents.{Content, contents, contents_of, is_same}
use Rattle.page_census.specs.Numbers.{distinct, guest_numbers, sum_alone}
use Rattle.page_census.specs.declared.numbers.GuestNumbers.{GuestNumbers}
use Rattle.page_census.specs.declared.guest.Guest.{Guest}

fewer : (t u : Bool) → cond (t || u) 0 1 ≤ cond t 0 1
fewer true u = omega arith
fewer false true = omega arith
fewer false false = omega arith

at_most_one : (t : Bool) → cond t 0 1 ≤ 1
at_most_one true = omega arith
at_most_one false = omega arith

module _ {X : Type 0} (same : X → X → Bool) where
  distinct-append : (xs ys : List X) → distinct same (xs ++ ys) ≤ distinct same xs + distinct same ys
  distinct-append [] ys = omega arith
  distinct-append (x ∷ xs) ys =
      let rest : distinct same (xs ++ ys) ≤ distinct same xs + distinct same ys = distinct-append xs ys in
      let here : cond (list_any (same x) (xs ++ ys)) 0 1 ≤ cond (list_any (same x) xs) 0 1 = rw (list_any-append (same x) xs ys) (fewer (list_any (same x) xs) (list_any (same x) ys)) in
      omega (arith, rest, here)

  distinct-le-length : (xs : List X) → distinct same xs ≤ length xs
  distinct-le-length [] = omega arith
  distinct-le-length (x ∷ xs) =
      let rest : distinct same xs ≤ length xs = distinct-le-length xs in
      let here : cond (list_any (same x) xs) 0 1 ≤ 1 = at_most_one (list_any (same x) xs) in
      omega (arith, rest, here)

module _ {S : Type 0} (pages : S → List (List ℕ)) (all : List Content) where
  pub alone_within : (guests : List (Guest S)) → sum_alone (map (λ (guest : Guest S). guest_numbers all (contents_of pages guest)) guests) + distinct is_same (contents pages guests) ≤ length (contents pages guests)
  alone_within [] = omega arith
  alone_within (guest ∷ guests) =
      let own : List Content = contents_of pages guest in
      let rest : List Content = contents pages guests in
      let later : List GuestNumbers = map (λ (guest : Guest S). guest_numbers all (contents_of pages guest)) guests in
      let sums : sum_alone (guest_numbers all own ∷ later) ≡ length own - distinct is_same own + sum_alone later = sum_by-cons (λ (numbers : GuestNumbers). numbers.alone) (guest_numbers all own) later in
      let both : distinct is_same (own ++ rest) ≤ distinct is_same own + distinct is_same rest = distinct-append is_same own rest in
      let few : distinct is_same own ≤ length own = distinct-le-length is_same own in
      let len : length (own ++ rest) ≡ length own + length rest = length-append own rest in
      let so_far : sum_alone later + distinct is_same rest ≤ length rest = alone_within guests in
      omega (arith, sums, both, few, len, so_far)
