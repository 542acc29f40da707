use Rattle.window_tables.proofs.NextRuns.{each_run_is_next, no_run_is_missed}
use Rattle.window_tables.proofs.laws.runs_law.Goals as goal

pub returns-clause-next : goal.returns-clause-next
returns-clause-next c = each_run_is_next

pub returns-clause-none : goal.returns-clause-none
returns-clause-none c = no_run_is_missed
