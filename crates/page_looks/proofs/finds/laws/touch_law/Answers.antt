use Rattle.page_looks.proofs.Found.{later_reads_what_it_may, reads_what_it_may}
use Rattle.page_looks.proofs.finds.laws.touch_law.Goals as goal

pub returns-clause-first : goal.returns-clause-first
returns-clause-first c = reads_what_it_may

pub returns-clause-later : goal.returns-clause-later
returns-clause-later c = later_reads_what_it_may
