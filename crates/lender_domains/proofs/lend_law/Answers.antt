use Rattle.lender_domains.proofs.Loaned.{lends_own}
use Rattle.lender_domains.proofs.lend_law.Goals as goal

pub returns : goal.returns
returns c = lends_own
