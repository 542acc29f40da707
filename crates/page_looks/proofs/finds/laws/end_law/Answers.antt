use Rattle.page_looks.proofs.Found.{each_leaves_fewer}
use Rattle.page_looks.proofs.finds.laws.end_law.Goals as goal

pub returns : goal.returns
returns c = each_leaves_fewer
