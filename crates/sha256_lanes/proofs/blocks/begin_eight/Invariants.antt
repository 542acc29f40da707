use Rattle.std.proofs.Common.{ℕ, ◌*◌, ◌<◌, [], slice_index, slice_index_or}
use Rattle.sha256_lanes.specs.Hashes.{block_at}
use Rattle.sha256_lanes.specs.Lanes.{lane}
use Rattle.sha256_lanes.specs.Schedules.{Schedules}
use Rattle.sha256_lanes.proofs.blocks.begin_eight.Given as goal

abbrev pub invariant-loop-turn : goal.invariant-loop-turn
invariant-loop-turn l = (j : ℕ) → j < 8 → Schedules (lane slice_index j l.words) (block_at (slice_index_or l.messages j []) l.n) (4 * l.turn)
