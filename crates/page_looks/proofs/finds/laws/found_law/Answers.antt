use Rattle.page_looks.proofs.Found.{found_is_idle, later_found_is_idle}
use Rattle.page_looks.proofs.finds.laws.found_law.Goals as goal

pub returns-clause-first : goal.returns-clause-first
returns-clause-first c = found_is_idle

pub returns-clause-later : goal.returns-clause-later
returns-clause-later c = later_found_is_idle
