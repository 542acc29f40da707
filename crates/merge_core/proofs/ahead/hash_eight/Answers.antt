use Rattle.std.proofs.Common.{◌∙◌}
use Rattle.page_digest.proofs.Eights.{eight_listed}
use Rattle.merge_core.proofs.ahead.hash_eight.Goals as goal

pub returns : goal.returns
returns g c =
    c.hash_eight.ensures
    ∙ eight_listed g.H.HashFunction.hash_of c.args.held.now.frames _ _ _ _ _ _ _ _ c.args.pairs.now c.requires.eight
    c.bytes.ensures.value c.bytes-2.ensures.value c.bytes-3.ensures.value c.bytes-4.ensures.value c.bytes-5.ensures.value c.bytes-6.ensures.value c.bytes-7.ensures.value c.bytes-8.ensures.value
