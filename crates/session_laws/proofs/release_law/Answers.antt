use Rattle.session_laws.proofs.Kept.{frees_given_up}
use Rattle.session_laws.proofs.release_law.Goals as goal

pub returns : goal.returns
returns c = frees_given_up
