use Rattle.std.proofs.Common.{◌≡◌, ◌+◌, ◌*◌, ◌∙◌, ap, arith, slice_index}
use Rattle.sha2.specs.Sha256.{word_at}
use Rattle.sha256_lanes.specs.Lanes.{one_of}
use Rattle.sha256_lanes.proofs.Lanes.{in_each}
use Rattle.sha256_lanes.proofs.blocks.four_words.Goals as goal

pub returns : goal.returns
returns c j k ltj ltk =
    let t = c.args.t in
    let place : 4 * t + 4 * k ≡ 4 * (t + k) = omega arith in
    let block = one_of j c.args.a.now c.args.b.now c.args.c.now c.args.d.now in
    let read = in_each (λ n. slice_index (one_of n c.words_at.result c.words_at-2.result c.words_at-3.result c.words_at-4.result) k
    ≡ word_at (one_of n c.args.a.now c.args.b.now c.args.c.now c.args.d.now) (4 * t + 4 * k))
    (c.words_at.ensures k ltk) (c.words_at-2.ensures k ltk) (c.words_at-3.ensures k ltk) (c.words_at-4.ensures k ltk) j ltj in
    c.transposed.ensures j k ltj ltk ∙ read ∙ ap (word_at block) place
