use Rattle.page_lender.proofs.Slots.{keeps_account}
use Rattle.page_lender.proofs.laws.slots_law.Goals as goal

pub returns : goal.returns
returns c = keeps_account
