use Rattle.look_tasks.proofs.Again.{keeps_to_a_tenth}
use Rattle.look_tasks.proofs.budget_laws.chore_law.Goals as goal

pub returns : goal.returns
returns c = keeps_to_a_tenth
