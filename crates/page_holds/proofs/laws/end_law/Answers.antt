use Rattle.page_holds.proofs.Left.{each_step_leaves_less}
use Rattle.page_holds.proofs.laws.end_law.Goals as goal

pub returns : goal.returns
returns c = each_step_leaves_less
