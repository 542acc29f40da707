use Rattle.page_lending.proofs.Stores.{stored_at_once}
use Rattle.page_lending.proofs.laws.stored_at_once_law.Goals as goal

pub returns : goal.returns
returns c = stored_at_once
