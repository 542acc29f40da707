use Rattle.session_laws.proofs.Lost.{loses_one}
use Rattle.session_laws.proofs.loss_law.Goals as goal

pub returns : goal.returns
returns c = loses_one
