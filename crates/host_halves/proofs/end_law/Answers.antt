use Rattle.host_halves.proofs.Ended.{ends_half, empty_half}
use Rattle.host_halves.proofs.end_law.Goals as goal

pub returns-clause-ends : goal.returns-clause-ends
returns-clause-ends c = ends_half

pub returns-clause-empty : goal.returns-clause-empty
returns-clause-empty c = empty_half
