use Rattle.window_pages.proofs.Lived.{each_life_is_well}
use Rattle.window_pages.proofs.laws.life_law.Goals as goal

pub returns : goal.returns
returns c = each_life_is_well
