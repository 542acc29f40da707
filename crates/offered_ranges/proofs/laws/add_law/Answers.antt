use Rattle.offered_ranges.proofs.Counted.{added_apart}
use Rattle.offered_ranges.proofs.laws.add_law.Goals as goal

pub returns-clause-apart : goal.returns-clause-apart
returns-clause-apart c = added_apart
