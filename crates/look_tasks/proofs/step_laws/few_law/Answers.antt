use Rattle.look_tasks.proofs.Few.{returns_are_few, none_comes_at_once}
use Rattle.look_tasks.proofs.step_laws.few_law.Goals as goal

pub returns-clause-few : goal.returns-clause-few
returns-clause-few c = returns_are_few

pub returns-clause-still : goal.returns-clause-still
returns-clause-still c = none_comes_at_once
