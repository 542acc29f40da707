use Rattle.std.proofs.Common.{◌≡◌, ℕ, ◌<◌, slice_index}
use Rattle.sha2.specs.Sha256.{hash_after, initial_hash_256}
use Rattle.sha256_lanes.specs.Lanes.{lane, one_of}
use Rattle.sha256_lanes.proofs.hashing.state_of_four.Given as goal

abbrev pub invariant-loop-n : goal.invariant-loop-n
invariant-loop-n l = (j : ℕ) → j < 4 → lane slice_index j l.state ≡ hash_after initial_hash_256 (one_of j l.a l.b l.c l.d) l.n
