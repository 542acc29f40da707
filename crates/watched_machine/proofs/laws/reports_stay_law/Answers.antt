use Rattle.merge_run.proofs.Fronts.{are_of_longer}
use Rattle.watched_machine.proofs.laws.reports_stay_law.Goals as goal

pub returns : goal.returns
returns c = are_of_longer
