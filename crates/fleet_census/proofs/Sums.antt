-- Sums over digests, one digest more at a time.
use Rattle.std.proofs.Common.{◌≡◌, ℕ, zero, suc, ◌+◌, ◌*◌, ◌-◌, ◌<◌, ◌≤◌, ◌^◌, min, Bool, true, false, cond, refl, sym, ap, ◌∙◌, arith}
use Rattle.std.proofs.Math.Nat.{mul-le-mul_left}
use Rattle.fleet_census.specs.Amounts.{amount_below, sum_below, with_content}
use Rattle.fleet_census.specs.declared.amount.Amount.{Amount}

pub sum_more : (f : ℕ → ℕ) (n : ℕ) → sum_below f (suc n) ≡ sum_below f n + f n
unfolding sum_below
sum_more f n = refl

pub sum_none : (f : ℕ → ℕ) → sum_below f 0 ≡ 0
unfolding sum_below
sum_none f = refl

-- where nothing is added, the sum stays
pub sum_stays : (f : ℕ → ℕ) (from steps : ℕ) → ((digest : ℕ) → from ≤ digest → digest < from + steps → f digest ≡ 0)
    → sum_below f (from + steps) ≡ sum_below f from
sum_stays f from zero none = let e : from + 0 ≡ from = omega arith in ap (sum_below f) e
sum_stays f from (suc steps) none =
    let e : from + suc steps ≡ suc (from + steps) = omega arith in
    let before = sum_stays f from steps (λ digest low high. none digest low (omega arith)) in
    let last = none (from + steps) (omega arith) (omega arith) in
    ap (sum_below f) e ∙ omega (arith, sum_more f (from + steps), before, last)

pub sum_low : (f g : ℕ → ℕ) (n : ℕ) → ((digest : ℕ) → f digest ≤ g digest) → sum_below f n ≤ sum_below g n
sum_low f g zero each = omega (arith, sum_none f)
sum_low f g (suc n) each = omega (arith, sum_more f n, sum_more g n, sum_low f g n each, each n)

pub sum_grows : (f : ℕ → ℕ) (from steps : ℕ) → sum_below f from ≤ sum_below f (from + steps)
sum_grows f from zero = let e : from + 0 ≡ from = omega arith in rw e (omega arith)
sum_grows f from (suc steps) =
    let e : from + suc steps ≡ suc (from + steps) = omega arith in
    rw e (omega (arith, sum_more f (from + steps), sum_grows f from steps))

-- a square with another added is at most the square of the sum
squares_add : (s a x : ℕ) → s ≤ a * a → s + x * x ≤ (a + x) * (a + x)
squares_add s a x h = omega (arith, h)

-- the sum of squares is at most the square of the sum
pub sum_squares : (f : ℕ → ℕ) (n : ℕ) → sum_below (λ digest. f digest * f digest) n ≤ sum_below f n * sum_below f n
sum_squares f zero = omega (arith, sum_none (λ digest. f digest * f digest))
sum_squares f (suc n) =
    rw (sum_more f n, sum_more (λ digest. f digest * f digest) n) (squares_add (sum_below (λ digest. f digest * f digest) n) (sum_below f n) (f n) (sum_squares f n))

-- one content more, where no sum is cut off
added : (z : Bool) (x zeros others squares : ℕ) → zeros + x < 2 ^ 64 → others + x < 2 ^ 64 → squares + x * x < 2 ^ 128
    → with_content (record { zeros = zeros; others = others; squares = squares }) z x
    ≡ record { zeros = zeros + cond z x 0; others = others + cond z 0 x; squares = squares + cond z 0 (x * x) }
added true x zeros others squares low_zeros low_others low_squares =
    let e : min (zeros + x) (2 ^ 64 - 1) ≡ zeros + x = omega arith in
    let same_others : others + 0 ≡ others = omega arith in
    let same_squares : squares + 0 ≡ squares = omega arith in
    rw (e, same_others, same_squares) refl
added false x zeros others squares low_zeros low_others low_squares =
    let same : zeros + 0 ≡ zeros = omega arith in
    let e : min (others + x) (2 ^ 64 - 1) ≡ others + x = omega arith in
    let f : min (squares + x * x) (2 ^ 128 - 1) ≡ squares + x * x = omega arith in
    rw (same, e, f) refl

part : (z : Bool) (x : ℕ) → (cond z x 0 ≤ x) × (cond z 0 x ≤ x)
part true x = omega arith
part false x = omega arith

part_square : (z : Bool) (x : ℕ) → cond z 0 (x * x) ≡ cond z 0 x * cond z 0 x
part_square true x = omega arith
part_square false x = refl

small_square : (a : ℕ) → a < 2 ^ 64 → a * a < 2 ^ 128
small_square a low =
    let once : a * a ≤ a * (2 ^ 64 - 1) = mul-le-mul_left {m = a} {n = 2 ^ 64 - 1} a (omega arith) in
    omega (arith, once)

module _ (z : ℕ → Bool) (x : ℕ → ℕ) where
  -- the sum over the contents of zeros, that over the others, and that of the squares, one digest more
  pub amount_more : (n : ℕ) → sum_below x (suc n) < 2 ^ 64 → with_content (amount_below z x n) (z n) (x n) ≡ amount_below z x (suc n)
  amount_more n low =
      let zeros = sum_below (λ digest. cond (z digest) (x digest) 0) n in
      let others = sum_below (λ digest. cond (z digest) 0 (x digest)) n in
      let squares = sum_below (λ digest. cond (z digest) 0 (x digest * x digest)) n in
      let all = sum_more x n in
      let low_zeros : zeros ≤ sum_below x n = sum_low (λ digest. cond (z digest) (x digest) 0) x n (λ digest. (part (z digest) (x digest)).0) in
      let low_others : others ≤ sum_below x n = sum_low (λ digest. cond (z digest) 0 (x digest)) x n (λ digest. (part (z digest) (x digest)).1) in
      let as_squares : squares ≤ sum_below (λ digest. cond (z digest) 0 (x digest) * cond (z digest) 0 (x digest)) n = sum_low (λ digest. cond (z digest) 0 (x digest * x digest)) (λ digest. cond (z digest) 0 (x digest) * cond (z digest) 0 (x digest)) n (λ digest. rw (← part_square (z digest)
      (x digest)) (omega arith)) in
      let low_squares : squares ≤ others * others = omega (arith, as_squares, sum_squares (λ digest. cond (z digest) 0 (x digest)) n) in
      let most : squares + x n * x n ≤ (others + x n) * (others + x n) = squares_add squares others (x n) low_squares in
      let less : (others + x n) * (others + x n) < 2 ^ 128 = small_square (others + x n) (omega (arith, all, low, low_others)) in
      added (z n) (x n) zeros others squares (omega (arith, all, low, low_zeros)) (omega (arith, all, low, low_others)) (omega (arith, most, less))
      ∙ rw (sum_more (λ digest. cond (z digest) (x digest) 0) n, sum_more (λ digest. cond (z digest) 0 (x digest)) n, sum_more (λ digest. cond (z digest) 0 (x digest * x digest)) n) refl

  nothing_of : (b : Bool) (n : ℕ) → n ≡ 0 → (cond b n 0 ≡ 0) × (cond b 0 n ≡ 0) × (cond b 0 (n * n) ≡ 0)
  nothing_of true n e = (e, refl, refl)
  nothing_of false n e = (refl, e, rw e refl)

  -- where nothing is added, the amount stays
  pub amount_stays : (from steps : ℕ) → ((digest : ℕ) → from ≤ digest → digest < from + steps → x digest ≡ 0)
      → amount_below z x (from + steps) ≡ amount_below z x from
  amount_stays from steps none =
      rw (
        sum_stays (λ digest. cond (z digest) (x digest) 0) from steps (λ digest low high. (nothing_of (z digest) (x digest) (none digest low high)).0),
        sum_stays (λ digest. cond (z digest) 0 (x digest)) from steps (λ digest low high. (nothing_of (z digest) (x digest) (none digest low high)).1),
        sum_stays (λ digest. cond (z digest) 0 (x digest * x digest)) from steps (λ digest low high. (nothing_of (z digest) (x digest) (none digest low high)).2),
      )
      refl

  -- the next digest that counts
  pub amount_next : (from at : ℕ) → from ≤ at → ((digest : ℕ) → from ≤ digest → digest < at → x digest ≡ 0) → sum_below x (suc at) < 2 ^ 64
      → with_content (amount_below z x from) (z at) (x at) ≡ amount_below z x (suc at)
  amount_next from at within none low =
      let e : from + (at - from) ≡ at = omega arith in
      let same : amount_below z x at ≡ amount_below z x from = rw e at (amount_stays from (at - from) (λ digest ge lt. none digest ge (omega arith))) in
      ap (λ (before : Amount). with_content before (z at) (x at)) (sym same) ∙ amount_more at low

  -- nothing is added up to a digest and with it
  pub amount_past : (from at : ℕ) → from ≤ at → ((digest : ℕ) → from ≤ digest → digest ≤ at → x digest ≡ 0)
      → amount_below z x (suc at) ≡ amount_below z x from
  amount_past from at within none =
      let e : from + (suc at - from) ≡ suc at = omega arith in
      rw e at (amount_stays from (suc at - from) (λ digest ge lt. none digest ge (omega arith)))

module _ (x : ℕ → ℕ) where
  pub number_past : (from at : ℕ) → from ≤ at → ((digest : ℕ) → from ≤ digest → digest ≤ at → x digest ≡ 0) → sum_below x (suc at) ≡ sum_below x from
  number_past from at within none =
      let e : from + (suc at - from) ≡ suc at = omega arith in
      rw e at (sum_stays x from (suc at - from) (λ digest ge lt. none digest ge (omega arith)))

  pub number_next : (from at : ℕ) → from ≤ at → ((digest : ℕ) → from ≤ digest → digest < at → x digest ≡ 0) → sum_below x (suc at) < 2 ^ 64
      → min (sum_below x from + x at) (2 ^ 64 - 1) ≡ sum_below x (suc at)
  number_next from at within none low =
      let e : from + (at - from) ≡ at = omega arith in
      let same : sum_below x at ≡ sum_below x from = rw e at (sum_stays x from (at - from) (λ digest ge lt. none digest ge (omega arith))) in
      omega (arith, sum_more x at, same, low)
