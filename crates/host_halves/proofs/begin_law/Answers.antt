use Rattle.host_halves.proofs.Held.{begins_half}
use Rattle.host_halves.proofs.begin_law.Goals as goal

pub returns : goal.returns
returns c = begins_half
