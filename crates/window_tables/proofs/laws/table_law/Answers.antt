use Rattle.window_tables.proofs.Counts.{each_is_counted_still, none_is_missed}
use Rattle.window_tables.proofs.laws.table_law.Goals as goal

pub returns-clause-counted : goal.returns-clause-counted
returns-clause-counted c = each_is_counted_still

pub returns-clause-missed : goal.returns-clause-missed
returns-clause-missed c = none_is_missed
