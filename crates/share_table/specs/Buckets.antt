-- How many buckets a table has, and how many bytes its room takes.
use Rattle.std.specs.Prelude.{◌≡◌, ℕ, ◌+◌, ◌*◌, ◌^◌, ◌≤◌, ◌<◌}

pub record IsPowerOfTwo (number : ℕ) : Type 0 where
  pub exponent : ℕ
  pub is : number ≡ 2 ^ exponent

-- the greatest power of two that is at most the limit
pub record IsGreatestPower (limit number : ℕ) : Type 0 where
  pub power : IsPowerOfTwo number
  pub within : number ≤ limit
  pub greatest : limit < 2 * number

-- how many bytes the room for this many entries takes: 16 for each packed entry, and 4 for the head of each bucket
pub record IsRoom (capacity bytes : ℕ) : Type 0 where
  pub heads : ℕ
  pub buckets : IsGreatestPower capacity heads
  pub is : bytes ≡ 16 * capacity + 4 * heads
