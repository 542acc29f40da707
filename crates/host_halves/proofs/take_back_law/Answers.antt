use Rattle.host_halves.proofs.Held.{takes_back_half}
use Rattle.host_halves.proofs.take_back_law.Goals as goal

pub returns : goal.returns
returns c = takes_back_half
