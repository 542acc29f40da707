use Rattle.offered_ranges.proofs.Free.{none_shared, stay_apart}
use Rattle.offered_ranges.proofs.number_laws.numbers_law.Goals as goal

pub returns-clause-new : goal.returns-clause-new
returns-clause-new c = none_shared

pub returns-clause-apart : goal.returns-clause-apart
returns-clause-apart c = stay_apart
