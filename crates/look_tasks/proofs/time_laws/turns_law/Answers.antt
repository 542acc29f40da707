use Rattle.look_tasks.proofs.Turning.{turns_stay_in_bounds}
use Rattle.look_tasks.proofs.time_laws.turns_law.Goals as goal

pub returns : goal.returns
returns c = turns_stay_in_bounds
