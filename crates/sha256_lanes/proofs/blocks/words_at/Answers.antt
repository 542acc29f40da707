use Rattle.std.proofs.Common.{◌∙◌}
use Rattle.sha256_lanes.proofs.Words.{word_within}
use Rattle.sha256_lanes.proofs.blocks.words_at.Goals as goal

pub returns : goal.returns
returns c k lt = c.big_endian.ensures k lt ∙ word_within c.args.block.now c.args.at k lt
