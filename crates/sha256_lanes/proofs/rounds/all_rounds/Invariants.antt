use Rattle.std.proofs.Common.{◌≡◌, ℕ, ◌*◌, ◌<◌}
use Rattle.sha2.specs.Sha256.{rounds}
use Rattle.sha256_lanes.specs.Lanes.{lane}
use Rattle.sha256_lanes.proofs.rounds.all_rounds.Given as goal

abbrev pub invariant-loop-turn : goal.invariant-loop-turn
invariant-loop-turn g l = (j : ℕ) → j < g.V.Vector.width
    → lane g.V.Vector.word j l.state ≡ rounds (lane g.V.Vector.word j l.start) (lane g.V.Vector.word j l.words) (8 * l.turn)
