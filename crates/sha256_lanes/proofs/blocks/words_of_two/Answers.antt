use Rattle.std.proofs.Common.{◌∙◌}
use Rattle.sha256_lanes.proofs.blocks.words_of_two.Goals as goal

pub returns-clause-low : goal.returns-clause-low
returns-clause-low c k lt = c.joined.ensures.low k lt ∙ c.words_at.ensures k lt

pub returns-clause-high : goal.returns-clause-high
returns-clause-high c k lt = c.joined.ensures.high k lt ∙ c.words_at-2.ensures k lt
