use Rattle.session_laws.proofs.Kept.{keeps_shown}
use Rattle.session_laws.proofs.shown_law.Goals as goal

pub returns : goal.returns
returns c = keeps_shown
