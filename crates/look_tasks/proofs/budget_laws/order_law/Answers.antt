use Rattle.look_tasks.proofs.Stretched.{one_order_more}
use Rattle.look_tasks.proofs.budget_laws.order_law.Goals as goal

pub returns : goal.returns
returns c = one_order_more
