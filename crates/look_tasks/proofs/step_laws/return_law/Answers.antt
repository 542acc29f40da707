use Rattle.look_tasks.proofs.Ordered.{returns_come_first}
use Rattle.look_tasks.proofs.Stepped.{none_is_lost, returns_are_due, all_come_back}
use Rattle.look_tasks.proofs.step_laws.return_law.Goals as goal

pub returns-clause-kept : goal.returns-clause-kept
returns-clause-kept c = none_is_lost

pub returns-clause-due : goal.returns-clause-due
returns-clause-due c = returns_are_due

pub returns-clause-first : goal.returns-clause-first
returns-clause-first c = returns_come_first

pub returns-clause-all : goal.returns-clause-all
returns-clause-all c = all_come_back
