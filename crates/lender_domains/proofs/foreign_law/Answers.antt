use Rattle.lender_domains.proofs.Freed.{release_refused}
use Rattle.lender_domains.proofs.foreign_law.Goals as goal

pub returns : goal.returns
returns c = release_refused
