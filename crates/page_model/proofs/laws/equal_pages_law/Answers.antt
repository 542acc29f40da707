use Rattle.page_model.proofs.Pairs.{equal_pages_share}
use Rattle.page_model.proofs.laws.equal_pages_law.Goals as goal

pub returns : goal.returns
returns c = equal_pages_share c.args.entries.now
