use Rattle.window_domains.proofs.Histories.{is_right}
use Rattle.window_domains.proofs.history_law.Goals as goal

pub returns : goal.returns
returns c = is_right
