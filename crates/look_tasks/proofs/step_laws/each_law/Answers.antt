use Rattle.look_tasks.proofs.Stepped.{each_comes_once, over_is_all}
use Rattle.look_tasks.proofs.step_laws.each_law.Goals as goal

pub returns-clause-once : goal.returns-clause-once
returns-clause-once c = each_comes_once

pub returns-clause-all : goal.returns-clause-all
returns-clause-all c = over_is_all
