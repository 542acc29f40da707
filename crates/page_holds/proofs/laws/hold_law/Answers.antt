use Rattle.page_holds.proofs.Courses.{each_hold_is_right}
use Rattle.page_holds.proofs.laws.hold_law.Goals as goal

pub returns : goal.returns
returns c = each_hold_is_right
