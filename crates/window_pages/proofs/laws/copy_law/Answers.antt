use Rattle.window_pages.proofs.Spared.{copies_are_pinned, copies_stay}
use Rattle.window_pages.proofs.laws.copy_law.Goals as goal

pub returns-clause-pinned : goal.returns-clause-pinned
returns-clause-pinned c = copies_are_pinned

pub returns-clause-stays : goal.returns-clause-stays
returns-clause-stays c = copies_stay
