use Rattle.page_lender.proofs.Kept.{kept_by_guest, kept_by_others}
use Rattle.page_lender.proofs.laws.others_law.Goals as goal

pub returns-clause-guest : goal.returns-clause-guest
returns-clause-guest c = kept_by_guest

pub returns-clause-others : goal.returns-clause-others
returns-clause-others c = kept_by_others
