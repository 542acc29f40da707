use Rattle.session_laws.proofs.Kept.{agrees}
use Rattle.session_laws.proofs.agree_law.Goals as goal

pub returns : goal.returns
returns c = agrees
