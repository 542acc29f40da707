use Rattle.window_domains.proofs.Begins.{begins}
use Rattle.window_domains.proofs.begin_law.Goals as goal

pub returns : goal.returns
returns c = begins
