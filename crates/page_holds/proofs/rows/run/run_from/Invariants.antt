use Rattle.page_holds.proofs.RowRuns.{Runs}
use Rattle.page_holds.proofs.rows.run.run_from.Given as goal

abbrev pub invariant-loop-n : goal.invariant-loop-n
invariant-loop-n l = Runs l.step l.first l.begin l.n l.pages l.row
