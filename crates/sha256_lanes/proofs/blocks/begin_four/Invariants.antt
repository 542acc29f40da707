use Rattle.std.proofs.Common.{ℕ, ◌*◌, ◌<◌, slice_index}
use Rattle.sha256_lanes.specs.Lanes.{lane, one_of}
use Rattle.sha256_lanes.specs.Schedules.{Schedules}
use Rattle.sha256_lanes.proofs.blocks.begin_four.Given as goal

abbrev pub invariant-loop-turn : goal.invariant-loop-turn
invariant-loop-turn l = (j : ℕ) → j < 4 → Schedules (lane slice_index j l.words) (one_of j l.a l.b l.c l.d) (4 * l.turn)
