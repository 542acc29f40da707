-- Sums over digests.
use Rattle.std.specs.Prelude.{ℕ, zero, suc, ◌+◌, ◌*◌, ◌-◌, ◌^◌, ◌<◌, ◌≤◌, min, Bool, if◌then◌else◌}
use Rattle.fleet_census.specs.declared.amount.Amount.{Amount}

-- the sum of what a function gives for each number below this one
unfoldable pub sum_below : (ℕ → ℕ) → ℕ → ℕ
sum_below f zero = 0
sum_below f (suc n) = sum_below f n + f n

-- how many digests there may be: each is a number below this one
unfoldable pub all_digests : ℕ
all_digests = 2 ^ 128

-- the sum over the digests below `bound`, apart for those of zeros
abbrev pub amount_below : (ℕ → Bool) → (ℕ → ℕ) → ℕ → Amount
amount_below is_zeros x bound = record {
  zeros = sum_below (λ digest. if is_zeros digest then x digest else 0) bound;
  others = sum_below (λ digest. if is_zeros digest then 0 else x digest) bound;
  squares = sum_below (λ digest. if is_zeros digest then 0 else x digest * x digest) bound;
}

-- the sum over all digests
abbrev pub amount : (ℕ → Bool) → (ℕ → ℕ) → Amount
amount is_zeros x = amount_below is_zeros x all_digests

-- an amount with one content more; sums end at the greatest number
abbrev pub with_content : Amount → Bool → ℕ → Amount
with_content amount is_zeros x = if is_zeros
    then record { zeros = min (amount.zeros + x) (2 ^ 64 - 1); others = amount.others; squares = amount.squares }
    else record {
      zeros = amount.zeros;
      others = min (amount.others + x) (2 ^ 64 - 1);
      squares = min (amount.squares + x * x) (2 ^ 128 - 1);
    }

-- What a sample of one content in `every` says of the whole: zeros are always kept, and each other content stands for as many.
abbrev pub estimate : Amount → ℕ → ℕ
estimate amount every = amount.zeros + amount.others * every

-- the square root, rounded down
pub record IsRoot (square root : ℕ) : Type 0 where
  pub low : root * root ≤ square
  pub high : square < (root + 1) * (root + 1)

-- The variance of the estimate, if each content but those of zeros is kept with the odds of 1 to `every`, independently of the others:
-- an estimate of it, by the contents kept.
abbrev pub variance : Amount → ℕ → ℕ
variance amount every = every * (every - 1) * amount.squares
