use Rattle.page_model.proofs.Hints.{one_hint_a_key}
use Rattle.page_model.proofs.laws.hints_law.Goals as goal

pub returns : goal.returns
returns c = one_hint_a_key c.args.entries.now
