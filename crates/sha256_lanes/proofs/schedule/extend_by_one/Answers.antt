use Rattle.std.proofs.Common.{arith}
use Rattle.sha256_lanes.specs.Lanes.{lane}
use Rattle.sha256_lanes.proofs.Lanes.{lane_set, length-lane}
use Rattle.sha256_lanes.proofs.Words.{later_word, word_put}
use Rattle.sha256_lanes.proofs.schedule.extend_by_one.Goals as goal

pub returns : goal.returns
returns g c j lt block so_far =
    let word = g.V.Vector.word in
    let words = lane word j c.args.words.now in
    let t = c.args.t in
    rw (lane_set word j t c.args.words.now c.word_after.result)
    (word_put words block t _ (omega (arith, length-lane word j c.args.words.now, c.told-words, c.requires.high)) so_far
    (later_word words block t _ c.requires.low c.requires.high so_far (c.word_after.ensures j lt)))
