use Rattle.look_tasks.proofs.Seen.{all_parts_come, each_part_comes_once}
use Rattle.look_tasks.proofs.laws.parts_law.Goals as goal

pub returns-clause-once : goal.returns-clause-once
returns-clause-once c = each_part_comes_once

pub returns-clause-all : goal.returns-clause-all
returns-clause-all c = all_parts_come
