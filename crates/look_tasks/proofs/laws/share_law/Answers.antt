use Rattle.look_tasks.proofs.Shared.{keeps_to_its_share}
use Rattle.look_tasks.proofs.laws.share_law.Goals as goal

pub returns : goal.returns
returns c = keeps_to_its_share
