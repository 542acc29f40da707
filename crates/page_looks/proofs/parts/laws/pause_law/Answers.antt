use Rattle.page_looks.proofs.Paused.{no_to_and_fro}
use Rattle.page_looks.proofs.parts.laws.pause_law.Goals as goal

pub returns : goal.returns
returns c = no_to_and_fro
