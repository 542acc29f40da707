use Rattle.std.proofs.Common.{◌-◌, arith}
use Rattle.sha256_lanes.proofs.Lanes.{word_of}
use Rattle.sha256_lanes.proofs.Words.{word_sum}
use Rattle.sha256_lanes.proofs.schedule.word_after.Goals as goal

pub returns : goal.returns
returns g c j lt =
    let word = g.V.Vector.word in
    let words = c.args.words.now in
    let t = c.args.t in
    rw (
      c.add-2.ensures j lt,
      c.add.ensures j lt,
      c.add-early.ensures j lt,
      c.small_sigma1.ensures j lt,
      c.small_sigma0.ensures j lt,
      word_of word j (t - 2) words c.index-words-t-4.result (omega (arith, c.type_inv.words, c.requires)),
      word_of word j (t - 7) words c.index-words-t-2.result (omega (arith, c.type_inv.words, c.requires)),
      word_of word j (t - 15) words c.index-words-t-3.result (omega (arith, c.type_inv.words, c.requires)),
      word_of word j (t - 16) words c.index-words-t.result (omega (arith, c.type_inv.words, c.requires)),
    ) (word_sum _ _ _ _)
