use Rattle.look_tasks.proofs.Stretched.{forgets}
use Rattle.look_tasks.proofs.budget_laws.wrong_budget.Goals as goal

pub returns : goal.returns
returns c = forgets
