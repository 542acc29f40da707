use Rattle.page_lending.proofs.Later.{lent_is_taken_back}
use Rattle.page_lending.proofs.laws.lent_is_taken_back_law.Goals as goal

pub returns : goal.returns
returns c = lent_is_taken_back
