use Rattle.std.proofs.Common.{arith, sym}
use Rattle.sha256_lanes.specs.Lanes.{lane}
use Rattle.sha256_lanes.proofs.Lanes.{word_of}
use Rattle.sha256_lanes.proofs.Words.{one_round}
use Rattle.sha256_lanes.proofs.rounds.round_at.Goals as goal

pub returns : goal.returns
returns g c j lt start so_far =
    let word = g.V.Vector.word in
    let words = c.args.words.now in
    one_round start (lane word j words) c.args.t _ _ _ _ so_far (c.constant.ensures j lt) (sym (word_of word j c.args.t words _ (omega (arith, c.type_inv.words, c.requires)))) (c.round.ensures j lt)
