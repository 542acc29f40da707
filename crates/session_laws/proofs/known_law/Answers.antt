use Rattle.session_laws.proofs.Kept.{knows_all, takes_back}
use Rattle.session_laws.proofs.known_law.Goals as goal

pub returns-clause-knows : goal.returns-clause-knows
returns-clause-knows c = knows_all

pub returns-clause-takes_back : goal.returns-clause-takes_back
returns-clause-takes_back c = takes_back
