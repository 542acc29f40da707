-- What is counted, with one digest more.
use Rattle.std.proofs.Common.{◌≡◌, ℕ, zero, suc, ◌+◌, ◌*◌, ◌-◌, ◌<◌, ◌≤◌, ◌^◌, min, Bool, true, false, cond, eqb, List, [], ◌∷◌, get_or, refl, sym, arith, inl, inr}
use Rattle.std.proofs.lemmas.Bool.{cases_Bool, cases_lt, ltb-false}
use Rattle.std.proofs.lemmas.List.Sums.{sum_by-cons}
use Rattle.std.specs.Prelude.{◌&&◌, nat_lt, sum_by}
use Rattle.guest_digests.specs.Samples.{zeros_digest}
use Rattle.digest_text.specs.Fields.{Row}
use Rattle.fleet_census.specs.Amounts.{amount_below, sum_below, with_content}
use Rattle.fleet_census.specs.Classes.{class_after, fewest, is_in_class, most}
use Rattle.fleet_census.specs.Fleets.{all_copies, all_holders, all_zero, both_have, class_below, content_of, copies_of, guest_below, holder_of, is_zeros, pair_below, salt_of, total_below, weight, zero_of}
use Rattle.fleet_census.specs.Pairs.{pair_after, pair_with}
use Rattle.fleet_census.specs.Steps.{guest_after, guest_with, total_with}
use Rattle.fleet_census.proofs.Classed.{not_low}
use Rattle.fleet_census.proofs.Sums.{amount_next, amount_past, amount_stays, number_next, number_past, sum_low, sum_more, sum_stays}
use Rattle.std.proofs.Math.Nat.{mul-le-mul_left}

-- one of many is at most all together
pub one_of_all : (f : List Row → ℕ) (fleet : List (List Row)) (file : ℕ) → f [] ≡ 0 → f (get_or fleet file []) ≤ sum_by f fleet
one_of_all f [] file none = omega (arith, none)
one_of_all f (rows ∷ fleet) zero none = omega (arith, sum_by-cons f rows fleet)
one_of_all f (rows ∷ fleet) (suc file) none = omega (arith, sum_by-cons f rows fleet, one_of_all f fleet file none)

-- and two of them are, too
two_of_all : (f : List Row → ℕ) (fleet : List (List Row)) (file other : ℕ) → other < file → f [] ≡ 0
    → f (get_or fleet file []) + f (get_or fleet other []) ≤ sum_by f fleet
two_of_all f [] file other apart none = omega (arith, none)
two_of_all f (rows ∷ fleet) zero other apart none = absurd (omega arith)
two_of_all f (rows ∷ fleet) (suc file) zero apart none = omega (arith, sum_by-cons f rows fleet, one_of_all f fleet file none)
two_of_all f (rows ∷ fleet) (suc file) (suc other) apart none =
    omega (arith, sum_by-cons f rows fleet, two_of_all f fleet file other (omega arith) none)

all_none : (f : List Row → ℕ) (fleet : List (List Row)) → ((file : ℕ) → f (get_or fleet file []) ≡ 0) → sum_by f fleet ≡ 0
all_none f [] none = refl
all_none f (rows ∷ fleet) none = omega (arith, sum_by-cons f rows fleet, none 0, all_none f fleet (λ file. none (suc file)))

all_low : (f g : List Row → ℕ) (fleet : List (List Row)) → ((rows : List Row) → f rows ≤ g rows) → sum_by f fleet ≤ sum_by g fleet
all_low f g [] low = omega arith
all_low f g (rows ∷ fleet) low = omega (arith, sum_by-cons f rows fleet, sum_by-cons g rows fleet, low rows, all_low f g fleet low)

zero_part : (b : Bool) (n : ℕ) → cond b n 0 ≤ n
zero_part true n = omega arith
zero_part false n = omega arith

one_part : (b : Bool) (n : ℕ) → cond b 1 0 ≤ suc n
one_part true n = omega arith
one_part false n = omega arith

one_if : (n : ℕ) → cond (nat_lt 0 n) 1 0 ≤ n
one_if zero = omega arith
one_if (suc n) = one_part (nat_lt 0 (suc n)) n

zero_if : (b : Bool) (n : ℕ) → n ≡ 0 → cond b n 0 ≡ 0
zero_if true n e = e
zero_if false n e = refl

-- what two guests have counts only where both have copies
both_low : (a b : ℕ) → cond (nat_lt 0 a && nat_lt 0 b) 1 0 ≤ a
both_low zero b = omega arith
both_low (suc a) b = one_part (nat_lt 0 (suc a) && nat_lt 0 b) a

first_none : (a b n : ℕ) → a ≡ 0 → cond (nat_lt 0 a && nat_lt 0 b) n 0 ≡ 0
first_none a b n e = rw e refl

-- what is in a class has a copy
class_low : (copies number : ℕ) → cond (is_in_class copies number) 1 0 ≤ copies
class_low zero number = rw (not_low (fewest number) (most number) 0 (omega arith)) (omega arith)
class_low (suc copies) number = one_part (is_in_class (suc copies) number) copies

-- what a digest stands for
weight_if : (b : Bool) (every copies : ℕ) → 1 ≤ every → copies ≤ cond b copies (every * copies)
weight_if true every copies some = omega arith
weight_if false every copies some = let e = mul-le-mul_left {m = 1} {n = every} copies some in omega (arith, e)

weight_none : (b : Bool) (every copies : ℕ) → copies ≡ 0 → cond b copies (every * copies) ≡ 0
weight_none true every copies e = e
weight_none false every copies e = rw e (omega arith)

pub copies_weighed : (fleet : List (List Row)) (every n : ℕ) → 1 ≤ every → sum_below (all_copies fleet) n ≤ sum_below (weight every fleet) n
copies_weighed fleet every n some = sum_low (all_copies fleet) (weight every fleet) n (λ digest. weight_if (is_zeros fleet digest) every (all_copies fleet digest) some)

-- one digest more is weighed
pub weight_step : (fleet : List (List Row)) (every from at : ℕ) → from ≤ at
    → ((digest : ℕ) → from ≤ digest → digest < at → (file : ℕ) → copies_of digest (get_or fleet file []) ≡ 0)
    → sum_below (weight every fleet) from + weight every fleet at ≡ sum_below (weight every fleet) (suc at)
weight_step fleet every from at within none =
    let e : from + (at - from) ≡ at = omega arith in
    let same : sum_below (weight every fleet) at ≡ sum_below (weight every fleet) from =
    rw e at (sum_stays (weight every fleet) from (at - from) (λ digest ge lt. weight_none (is_zeros fleet digest) every (all_copies fleet digest) (all_none (copies_of digest) fleet (none digest ge (omega arith))))) in
    omega (arith, same, sum_more (weight every fleet) at)

module _ (fleet : List (List Row)) (from at : ℕ) (within : from ≤ at)
    (none : (digest : ℕ) → from ≤ digest → digest < at → (file : ℕ) → copies_of digest (get_or fleet file []) ≡ 0)
    (low : sum_below (all_copies fleet) (suc at) < 2 ^ 64) where
  no_copies : (digest : ℕ) → from ≤ digest → digest < at → all_copies fleet digest ≡ 0
  no_copies digest ge lt = all_none (copies_of digest) fleet (none digest ge lt)

  zero_low : (digest : ℕ) → all_zero fleet digest ≤ all_copies fleet digest
  zero_low digest = all_low (zero_of digest) (copies_of digest) fleet (λ rows. zero_part (eqb digest (zeros_digest (salt_of rows))) (copies_of digest rows))

  holders_low : (digest : ℕ) → all_holders fleet digest ≤ all_copies fleet digest
  holders_low digest = all_low (λ rows. cond (nat_lt 0 (copies_of digest rows)) 1 0) (copies_of digest) fleet (λ rows. one_if (copies_of digest rows))

  -- a number of each digest that is at most all copies
  few : (x : ℕ → ℕ) → ((digest : ℕ) → x digest ≤ all_copies fleet digest) → sum_below x (suc at) < 2 ^ 64
  few x below = omega (arith, sum_low x (all_copies fleet) (suc at) below, low)

  nothing : (x : ℕ → ℕ) → ((digest : ℕ) → x digest ≤ all_copies fleet digest) → (digest : ℕ) → from ≤ digest → digest < at → x digest ≡ 0
  nothing x below digest ge lt = omega (arith, below digest, no_copies digest ge lt)

  next : (x : ℕ → ℕ) → ((digest : ℕ) → x digest ≤ all_copies fleet digest)
      → with_content (amount_below (is_zeros fleet) x from) (is_zeros fleet at) (x at) ≡ amount_below (is_zeros fleet) x (suc at)
  next x below = amount_next (is_zeros fleet) x from at within (nothing x below) (few x below)

  next_number : (x : ℕ → ℕ) → ((digest : ℕ) → x digest ≤ all_copies fleet digest) → min (sum_below x from + x at) (2 ^ 64 - 1) ≡ sum_below x (suc at)
  next_number x below = number_next x from at within (nothing x below) (few x below)

  -- the numbers in total
  pub total_step : total_with (content_of fleet at) (total_below fleet from) ≡ total_below fleet (suc at)
  total_step =
      rw (
        next_number (all_zero fleet) zero_low,
        next (λ digest. cond (nat_lt 1 (all_copies fleet digest)) (all_copies fleet digest) 0) (λ digest. zero_part (nat_lt 1 (all_copies fleet digest)) (all_copies fleet digest)),
        next (λ digest. min (all_copies fleet digest) 1) (λ digest. omega arith),
        next (λ digest. all_copies fleet digest - 1) (λ digest. omega arith),
        next_number (λ digest. all_zero fleet digest - 1) (λ digest. omega (arith, zero_low digest)),
        next (λ digest. all_holders fleet digest - 1) (λ digest. omega (arith, holders_low digest)),
      )
      refl

  module _ (file : ℕ) where
    own_low : (digest : ℕ) → copies_of digest (get_or fleet file []) ≤ all_copies fleet digest
    own_low digest = one_of_all (copies_of digest) fleet file refl

    -- a guest that has the digest
    has_step : guest_with (content_of fleet at) (guest_below fleet from (get_or fleet file [])) (record { file = file; copies = copies_of at (get_or fleet file []); zero = zero_of at (get_or fleet file []) })
        ≡ guest_below fleet (suc at) (get_or fleet file [])
    has_step =
        let rows = get_or fleet file [] in
        rw (
          next_number (λ digest. zero_of digest rows) (λ digest. omega (arith, own_low digest, zero_part (eqb digest (zeros_digest (salt_of rows))) (copies_of digest rows))),
          next (λ digest. min (copies_of digest rows) 1) (λ digest. omega (arith, own_low digest)),
          next (λ digest. cond (nat_lt 1 (all_copies fleet digest)) (copies_of digest rows) 0) (λ digest. omega (arith, own_low digest, zero_part (nat_lt 1 (all_copies fleet digest)) (copies_of digest rows))),
          next (λ digest. copies_of digest rows - 1) (λ digest. omega (arith, own_low digest)),
        )
        refl

    own_none : copies_of at (get_or fleet file []) ≡ 0 → (digest : ℕ) → from ≤ digest → digest ≤ at → copies_of digest (get_or fleet file []) ≡ 0
    own_none here digest ge le = elim (cases_lt digest at) [
      | inl lt ↦ none digest ge lt file
      | inr ge2 ↦ let e : digest ≡ at = omega arith in rw e here
    ]

    -- and one that hasn't
    hasnt_step : copies_of at (get_or fleet file []) ≡ 0 → guest_below fleet from (get_or fleet file []) ≡ guest_below fleet (suc at) (get_or fleet file [])
    hasnt_step here =
        let rows = get_or fleet file [] in
        let absent = own_none here in
        sym (rw (
          number_past (λ digest. zero_of digest rows) from at within (λ digest ge le. zero_if (eqb digest (zeros_digest (salt_of rows))) (copies_of digest rows) (absent digest ge le)),
          amount_past (is_zeros fleet) (λ digest. min (copies_of digest rows) 1) from at within (λ digest ge le. omega (arith, absent digest ge le)),
          amount_past (is_zeros fleet) (λ digest. cond (nat_lt 1 (all_copies fleet digest)) (copies_of digest rows) 0) from at within (λ digest ge le. zero_if (nat_lt 1 (all_copies fleet digest)) (copies_of digest rows) (absent digest ge le)),
          amount_past (is_zeros fleet) (λ digest. copies_of digest rows - 1) from at within (λ digest ge le. omega (arith, absent digest ge le)),
        )
        refl)

    pub guest_step : guest_after (content_of fleet at) (guest_below fleet from (get_or fleet file [])) (holder_of file at (get_or fleet file [])) ≡ guest_below fleet (suc at) (get_or fleet file [])
    guest_step = elim (cases_Bool (nat_lt 0 (copies_of at (get_or fleet file [])))) [
      | inl some ↦ rw some has_step
      | inr isnt ↦ rw isnt (hasnt_step (let le = ltb-false 0 (copies_of at (get_or fleet file [])) isnt in omega (arith, le)))
    ]

  -- where a digest counts for nothing
  out_of : (x : ℕ → ℕ) → ((digest : ℕ) → x digest ≤ all_copies fleet digest) → x at ≡ 0 → (digest : ℕ) → from ≤ digest → digest ≤ at → x digest ≡ 0
  out_of x below here digest ge le = elim (cases_lt digest at) [
    | inl lt ↦ nothing x below digest ge lt
    | inr ge2 ↦ let e : digest ≡ at = omega arith in rw e here
  ]

  module _ (file other : ℕ) (apart : other < file) where
    together : (digest : ℕ) → copies_of digest (get_or fleet file []) + copies_of digest (get_or fleet other []) ≤ all_copies fleet digest
    together digest = two_of_all (copies_of digest) fleet file other apart refl

    both_contents : ℕ → ℕ
    both_contents digest = cond (both_have digest (get_or fleet file []) (get_or fleet other [])) 1 0

    both_pages : ℕ → ℕ
    both_pages digest = cond (both_have digest (get_or fleet file []) (get_or fleet other [])) (copies_of digest (get_or fleet file []) + copies_of digest (get_or fleet other []) - 1) 0

    few_contents : (digest : ℕ) → both_contents digest ≤ all_copies fleet digest
    unfolding both_contents
    few_contents digest = omega (arith, together digest, both_low (copies_of digest (get_or fleet file [])) (copies_of digest (get_or fleet other [])))

    few_pages : (digest : ℕ) → both_pages digest ≤ all_copies fleet digest
    unfolding both_pages
    few_pages digest = omega (
      arith,
      together digest,
      zero_part (both_have digest (get_or fleet file []) (get_or fleet other [])) (copies_of digest (get_or fleet file []) + copies_of digest (get_or fleet other []) - 1),
    )

    both_step : nat_lt 0 (copies_of at (get_or fleet file [])) ≡ true → nat_lt 0 (copies_of at (get_or fleet other [])) ≡ true
        → pair_with (content_of fleet at) (pair_below fleet from (get_or fleet file []) (get_or fleet other []))
        (record { file = file; copies = copies_of at (get_or fleet file []); zero = zero_of at (get_or fleet file []) })
        (record { file = other; copies = copies_of at (get_or fleet other []); zero = zero_of at (get_or fleet other []) })
        ≡ pair_below fleet (suc at) (get_or fleet file []) (get_or fleet other [])
    unfolding both_contents both_pages
    both_step some others =
        let a = copies_of at (get_or fleet file []) in
        let b = copies_of at (get_or fleet other []) in
        let small : a + b < 2 ^ 64 = omega (arith, together at, few (all_copies fleet) (λ digest. omega arith), sum_more (all_copies fleet) at) in
        let all : min (a + b) (2 ^ 64 - 1) - 1 ≡ a + b - 1 = omega (arith, small) in
        rw (all, rw (some, others) at (next both_contents few_contents), rw (some, others) at (next both_pages few_pages)) refl

    -- where one of them hasn't it
    apart_step : both_contents at ≡ 0 → both_pages at ≡ 0
        → pair_below fleet from (get_or fleet file []) (get_or fleet other []) ≡ pair_below fleet (suc at) (get_or fleet file []) (get_or fleet other [])
    unfolding both_contents both_pages
    apart_step contents pages =
        sym (rw (amount_past (is_zeros fleet) both_contents from at within (out_of both_contents few_contents contents), amount_past (is_zeros fleet) both_pages from at within (out_of both_pages few_pages pages)) refl)

    -- what two guests have in common
    pub pair_step : pair_after (content_of fleet at) (pair_below fleet from (get_or fleet file []) (get_or fleet other []))
        (holder_of file at (get_or fleet file [])) (holder_of other at (get_or fleet other []))
        ≡ pair_below fleet (suc at) (get_or fleet file []) (get_or fleet other [])
    unfolding both_contents both_pages
    pair_step = elim (cases_Bool (nat_lt 0 (copies_of at (get_or fleet file [])))) [
      | inl some ↦ elim (cases_Bool (nat_lt 0 (copies_of at (get_or fleet other [])))) [
        | inl others ↦ rw (some, others) (both_step some others)
        | inr none ↦ rw (some, none) (apart_step (rw (some, none) refl) (rw (some, none) refl))
      ]
      | inr isnt ↦ rw isnt (apart_step (rw isnt refl) (rw isnt refl))
    ]

  module _ (number : ℕ) where
    -- the classes of copies
    pub class_step : class_after (content_of fleet at) number (class_below fleet from number) ≡ class_below fleet (suc at) number
    class_step =
        let contents = λ (digest : ℕ). cond (is_in_class (all_copies fleet digest) number) 1 0 in
        let pages = λ (digest : ℕ). cond (is_in_class (all_copies fleet digest) number) (all_copies fleet digest) 0 in
        let few_contents : (digest : ℕ) → contents digest ≤ all_copies fleet digest = λ digest. class_low (all_copies fleet digest) number in
        let few_pages : (digest : ℕ) → pages digest ≤ all_copies fleet digest = λ digest. zero_part (is_in_class (all_copies fleet digest) number) (all_copies fleet digest) in
        elim (cases_Bool (is_in_class (all_copies fleet at) number)) [
          | inl is ↦ rw (is, rw is at (next contents few_contents), rw is at (next pages few_pages)) refl
          | inr out ↦ rw out (sym (rw (amount_past (is_zeros fleet) contents from at within (out_of contents few_contents (rw out refl)), amount_past (is_zeros fleet) pages from at within (out_of pages few_pages (rw out refl))) refl))
        ]

-- a copy stands for a page at least
pub weight_low : (fleet : List (List Row)) (every digest : ℕ) → 1 ≤ every → all_copies fleet digest ≤ weight every fleet digest
weight_low fleet every digest some = weight_if (is_zeros fleet digest) every (all_copies fleet digest) some

-- where no guest has a digest, the numbers stay
module _ (fleet : List (List Row)) (from above : ℕ) (within : from ≤ above)
    (none : (digest : ℕ) → from ≤ digest → digest < above → (file : ℕ) → copies_of digest (get_or fleet file []) ≡ 0) where
  stays : (x : ℕ → ℕ) → ((digest : ℕ) → from ≤ digest → digest < above → x digest ≡ 0) → amount_below (is_zeros fleet) x above ≡ amount_below (is_zeros fleet) x from
  stays x absent = let e : from + (above - from) ≡ above = omega arith in rw e at (amount_stays (is_zeros fleet) x from (above - from) (λ digest ge lt. absent digest ge (omega arith)))

  number_stays : (x : ℕ → ℕ) → ((digest : ℕ) → from ≤ digest → digest < above → x digest ≡ 0) → sum_below x above ≡ sum_below x from
  number_stays x absent = let e : from + (above - from) ≡ above = omega arith in rw e at (sum_stays x from (above - from) (λ digest ge lt. absent digest ge (omega arith)))

  no_copy : (digest : ℕ) → from ≤ digest → digest < above → all_copies fleet digest ≡ 0
  no_copy digest ge lt = all_none (copies_of digest) fleet (none digest ge lt)

  no_zero : (digest : ℕ) → from ≤ digest → digest < above → all_zero fleet digest ≡ 0
  no_zero digest ge lt = all_none (zero_of digest) fleet (λ file. zero_if (eqb digest (zeros_digest (salt_of (get_or fleet file [])))) (copies_of digest (get_or fleet file [])) (none digest ge lt file))

  no_holder_of : (digest : ℕ) → from ≤ digest → digest < above → all_holders fleet digest ≡ 0
  no_holder_of digest ge lt = all_none (λ rows. cond (nat_lt 0 (copies_of digest rows)) 1 0) fleet (λ file. let low = one_if (copies_of digest (get_or fleet file [])) in omega (arith, low, none digest ge lt file))

  pub guest_stays : (file : ℕ) → guest_below fleet above (get_or fleet file []) ≡ guest_below fleet from (get_or fleet file [])
  guest_stays file =
      let rows = get_or fleet file [] in
      rw (
        number_stays (λ digest. zero_of digest rows) (λ digest ge lt. zero_if (eqb digest (zeros_digest (salt_of rows))) (copies_of digest rows) (none digest ge lt file)),
        stays (λ digest. min (copies_of digest rows) 1) (λ digest ge lt. omega (arith, none digest ge lt file)),
        stays (λ digest. cond (nat_lt 1 (all_copies fleet digest)) (copies_of digest rows) 0) (λ digest ge lt. zero_if (nat_lt 1 (all_copies fleet digest)) (copies_of digest rows) (none digest ge lt file)),
        stays (λ digest. copies_of digest rows - 1) (λ digest ge lt. omega (arith, none digest ge lt file)),
      )
      refl

  pub total_stays : total_below fleet above ≡ total_below fleet from
  total_stays =
      rw (
        number_stays (all_zero fleet) no_zero,
        stays (λ digest. cond (nat_lt 1 (all_copies fleet digest)) (all_copies fleet digest) 0) (λ digest ge lt. zero_if (nat_lt 1 (all_copies fleet digest)) (all_copies fleet digest) (no_copy digest ge lt)),
        stays (λ digest. min (all_copies fleet digest) 1) (λ digest ge lt. omega (arith, no_copy digest ge lt)),
        stays (λ digest. all_copies fleet digest - 1) (λ digest ge lt. omega (arith, no_copy digest ge lt)),
        number_stays (λ digest. all_zero fleet digest - 1) (λ digest ge lt. omega (arith, no_zero digest ge lt)),
        stays (λ digest. all_holders fleet digest - 1) (λ digest ge lt. omega (arith, no_holder_of digest ge lt)),
      )
      refl

  pub pair_stays : (file other : ℕ) → pair_below fleet above (get_or fleet file []) (get_or fleet other []) ≡ pair_below fleet from (get_or fleet file []) (get_or fleet other [])
  pair_stays file other =
      let rows = get_or fleet file [] in
      let others = get_or fleet other [] in
      rw (
        stays (λ digest. cond (both_have digest rows others) 1 0) (λ digest ge lt. first_none (copies_of digest rows) (copies_of digest others) 1 (none digest ge lt file)),
        stays (λ digest. cond (both_have digest rows others) (copies_of digest rows + copies_of digest others - 1) 0) (λ digest ge lt. first_none (copies_of digest rows) (copies_of digest others) (copies_of digest rows + copies_of digest others - 1) (none digest ge lt file)),
      )
      refl

  pub class_stays : (number : ℕ) → class_below fleet above number ≡ class_below fleet from number
  class_stays number =
      rw (
        stays (λ digest. cond (is_in_class (all_copies fleet digest) number) 1 0) (λ digest ge lt. omega (arith, class_low (all_copies fleet digest) number, no_copy digest ge lt)),
        stays (λ digest. cond (is_in_class (all_copies fleet digest) number) (all_copies fleet digest) 0) (λ digest ge lt. zero_if (is_in_class (all_copies fleet digest) number) (all_copies fleet digest) (no_copy digest ge lt)),
      )
      refl

  pub weight_stays : (every : ℕ) → sum_below (weight every fleet) above ≡ sum_below (weight every fleet) from
  weight_stays every = number_stays (weight every fleet) (λ digest ge lt. weight_none (is_zeros fleet digest) every (all_copies fleet digest) (no_copy digest ge lt))
