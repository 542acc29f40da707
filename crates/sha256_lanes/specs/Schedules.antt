-- The words that a block's rounds take.
use Rattle.std.specs.Prelude.{◌≡◌, ℕ, ◌<◌, List, slice_index}
use Rattle.sha2.specs.Sha256.{schedule}

-- the first n of these words are those of the block's schedule
abbrev pub Schedules : List ℕ → List ℕ → ℕ → Type 0
Schedules words block n = (t : ℕ) → t < n → slice_index words t ≡ slice_index (schedule block 48) t
