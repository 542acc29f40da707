use Rattle.lender_domains.proofs.Freed.{releases_own}
use Rattle.lender_domains.proofs.own_law.Goals as goal

pub returns : goal.returns
returns c = releases_own
