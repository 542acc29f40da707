use Rattle.sha256_lanes.proofs.Words.{no_round}
use Rattle.sha256_lanes.proofs.rounds.all_rounds.Goals as goal

pub loop-turn-init : goal.loop-turn-init
loop-turn-init g c j lt = no_round _ _
