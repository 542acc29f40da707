use Rattle.window_domains.proofs.Kept.{shows_bytes}
use Rattle.window_domains.proofs.show_law.Goals as goal

pub returns : goal.returns
returns c = shows_bytes
