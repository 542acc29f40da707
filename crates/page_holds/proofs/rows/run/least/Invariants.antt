use Rattle.page_holds.specs.Orders.{IsLeast}
use Rattle.page_holds.proofs.rows.run.least.Given as goal

abbrev pub invariant-loop-n : goal.invariant-loop-n
invariant-loop-n l = IsLeast l.first l.pages l.row l.n l.found
