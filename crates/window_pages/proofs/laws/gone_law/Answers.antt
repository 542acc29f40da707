use Rattle.window_pages.proofs.Spared.{gone_is_barred}
use Rattle.window_pages.proofs.laws.gone_law.Goals as goal

pub returns : goal.returns
returns c = gone_is_barred
