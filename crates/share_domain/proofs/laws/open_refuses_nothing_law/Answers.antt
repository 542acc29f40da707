use Rattle.share_domain.proofs.Open.{open_refuses_nothing}
use Rattle.share_domain.proofs.laws.open_refuses_nothing_law.Goals as goal

pub returns : goal.returns
returns c = open_refuses_nothing
