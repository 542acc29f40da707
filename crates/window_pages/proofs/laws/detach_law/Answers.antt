use Rattle.window_pages.proofs.Lived.{has_nothing, is_right_still, shows_on}
use Rattle.window_pages.proofs.laws.detach_law.Goals as goal

pub returns-clause-shows : goal.returns-clause-shows
returns-clause-shows c = shows_on

pub returns-clause-right : goal.returns-clause-right
returns-clause-right c = is_right_still

pub returns-clause-slots : goal.returns-clause-slots
returns-clause-slots c = has_nothing
