use Rattle.look_tasks.proofs.Left.{stays_within}
use Rattle.look_tasks.proofs.room_laws.within_law.Goals as goal

pub returns : goal.returns
returns c = stays_within
