use Rattle.look_tasks.proofs.LetOff.{letting_off_is_wrong, nothing_is_let_off}
use Rattle.look_tasks.proofs.budget_laws.let_off_law.Goals as goal

pub returns-clause-wrong : goal.returns-clause-wrong
returns-clause-wrong c = letting_off_is_wrong

pub returns-clause-never : goal.returns-clause-never
returns-clause-never c = nothing_is_let_off
