use Rattle.look_tasks.proofs.Stretched.{every_stretch}
use Rattle.look_tasks.proofs.budget_laws.stretch_law.Goals as goal

pub returns : goal.returns
returns c = every_stretch
