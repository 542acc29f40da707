use Rattle.offered_ranges.proofs.Counted.{taken_apart, taken_gone, taken_keeps}
use Rattle.offered_ranges.proofs.laws.take_out_law.Goals as goal

pub returns-clause-apart : goal.returns-clause-apart
returns-clause-apart c = taken_apart

pub returns-clause-gone : goal.returns-clause-gone
returns-clause-gone c = taken_gone

pub returns-clause-others : goal.returns-clause-others
returns-clause-others c = taken_keeps
