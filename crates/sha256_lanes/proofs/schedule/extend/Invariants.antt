use Rattle.std.proofs.Common.{ℕ, List, ◌*◌, ◌<◌}
use Rattle.sha256_lanes.specs.Lanes.{lane}
use Rattle.sha256_lanes.specs.Schedules.{Schedules}
use Rattle.sha256_lanes.proofs.schedule.extend.Given as goal

abbrev pub invariant-loop-turn : goal.invariant-loop-turn
invariant-loop-turn g l = (j : ℕ) → j < g.V.Vector.width → (block : List ℕ) → Schedules (lane g.V.Vector.word j l.initial.words) block 16
    → Schedules (lane g.V.Vector.word j l.words) block (4 * l.turn)
