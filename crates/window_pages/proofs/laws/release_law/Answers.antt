use Rattle.window_pages.proofs.Counting.{none_is_lost}
use Rattle.window_pages.proofs.laws.release_law.Goals as goal

pub returns : goal.returns
returns c = none_is_lost
