use Rattle.page_lending.proofs.Stores.{verdicts_follow}
use Rattle.page_lending.proofs.laws.verdicts_follow_law.Goals as goal

pub returns : goal.returns
returns c = verdicts_follow
