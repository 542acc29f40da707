use Rattle.page_lender.proofs.Unseen.{never_seen}
use Rattle.page_lender.proofs.laws.unseen_law.Goals as goal

pub returns : goal.returns
returns c = never_seen
