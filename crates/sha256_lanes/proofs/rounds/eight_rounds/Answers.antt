use Rattle.std.proofs.Common.{ap, ◌∙◌, arith}
use Rattle.sha2.specs.Sha256.{rounds}
use Rattle.sha256_lanes.specs.Lanes.{lane}
use Rattle.sha256_lanes.proofs.rounds.eight_rounds.Goals as goal

pub returns : goal.returns
returns g c j lt start so_far =
    let half = c.four_rounds-half.ensures j lt start so_far in
    c.four_rounds.ensures j lt start half ∙ ap (rounds start (lane g.V.Vector.word j c.args.words.now)) (omega arith)
