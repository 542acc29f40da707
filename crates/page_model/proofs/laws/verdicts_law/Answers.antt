use Rattle.page_model.proofs.Journals.{one_verdict_each, verdicts_stay}
use Rattle.page_model.proofs.laws.verdicts_law.Goals as goal

pub returns-clause-each : goal.returns-clause-each
returns-clause-each c = one_verdict_each c.args.entries.now

pub returns-clause-stay : goal.returns-clause-stay
returns-clause-stay c = verdicts_stay c.args.entries.now
