use Rattle.page_model.proofs.Alone.{keeps_bytes, keeps_loads}
use Rattle.page_model.proofs.laws.proposal_law.Goals as goal

pub returns-clause-bytes : goal.returns-clause-bytes
returns-clause-bytes c = keeps_bytes c.args.guest c.args.ppn

pub returns-clause-loads : goal.returns-clause-loads
returns-clause-loads c = keeps_loads c.args.guest c.args.ppn
