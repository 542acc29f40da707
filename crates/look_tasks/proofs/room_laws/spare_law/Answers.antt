use Rattle.look_tasks.proofs.Left.{leaves_enough, leaves_a_tenth}
use Rattle.look_tasks.proofs.room_laws.spare_law.Goals as goal

pub returns-clause-left : goal.returns-clause-left
returns-clause-left c = leaves_enough

pub returns-clause-parts : goal.returns-clause-parts
returns-clause-parts c = leaves_a_tenth
