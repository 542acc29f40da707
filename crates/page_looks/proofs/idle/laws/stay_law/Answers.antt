use Rattle.page_looks.proofs.Stayed.{stays_is_idle}
use Rattle.page_looks.proofs.idle.laws.stay_law.Goals as goal

pub returns : goal.returns
returns c = stays_is_idle
