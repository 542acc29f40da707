use Rattle.page_holds.proofs.RowEnds.{each_order_leaves_less}
use Rattle.page_holds.proofs.rows.laws.row_end_law.Goals as goal

pub returns : goal.returns
returns c = each_order_leaves_less
