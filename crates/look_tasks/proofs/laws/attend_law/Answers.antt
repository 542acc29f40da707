use Rattle.look_tasks.proofs.Timed.{attends_again, attends_in_time}
use Rattle.look_tasks.proofs.laws.attend_law.Goals as goal

pub returns-clause-time : goal.returns-clause-time
returns-clause-time c = attends_in_time

pub returns-clause-again : goal.returns-clause-again
returns-clause-again c = attends_again
