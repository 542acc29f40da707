use Rattle.std.proofs.Common.{ap, ◌∙◌, arith}
use Rattle.sha2.specs.Sha256.{rounds}
use Rattle.sha256_lanes.specs.Lanes.{lane}
use Rattle.sha256_lanes.proofs.rounds.four_rounds.Goals as goal

pub returns : goal.returns
returns g c j lt start so_far =
    let after = rounds start (lane g.V.Vector.word j c.args.words.now) in
    let one = c.round_at-one.ensures j lt start so_far in
    let two = c.round_at-two.ensures j lt start one in
    let three = c.round_at-three.ensures j lt start (two ∙ ap after (omega arith)) in
    c.round_at.ensures j lt start (three ∙ ap after (omega arith)) ∙ ap after (omega arith)
