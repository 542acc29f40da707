use Rattle.host_halves.proofs.Held.{lends_half}
use Rattle.host_halves.proofs.lend_law.Goals as goal

pub returns : goal.returns
returns c = lends_half
