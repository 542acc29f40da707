use Rattle.look_tasks.proofs.Waited.{waits_enough}
use Rattle.look_tasks.proofs.budget_laws.wait_law.Goals as goal

pub returns : goal.returns
returns c = waits_enough
