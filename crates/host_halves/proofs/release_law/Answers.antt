use Rattle.host_halves.proofs.Held.{releases_half}
use Rattle.host_halves.proofs.release_law.Goals as goal

pub returns : goal.returns
returns c = releases_half
