use Rattle.share_domain.proofs.Open.{open_refuses_none}
use Rattle.share_domain.proofs.laws.open_law.Goals as goal

pub returns : goal.returns
returns c = open_refuses_none
