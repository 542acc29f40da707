use Rattle.look_tasks.proofs.Found.{found_comes_first}
use Rattle.look_tasks.proofs.laws.found_law.Goals as goal

pub returns : goal.returns
returns c = found_comes_first
