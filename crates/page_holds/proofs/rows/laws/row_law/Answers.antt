use Rattle.page_holds.proofs.RowCourses.{each_page_is_held}
use Rattle.page_holds.proofs.rows.laws.row_law.Goals as goal

pub returns : goal.returns
returns c = each_page_is_held
