use Rattle.window_domains.proofs.Kept.{trims}
use Rattle.window_domains.proofs.trim_law.Goals as goal

pub returns : goal.returns
returns c = trims
