use Rattle.page_looks.proofs.Alike.{idle_is_alike, idle_means_alike, idle_over_means_alike}
use Rattle.page_looks.proofs.idle.laws.idle_law.Goals as goal

pub returns-clause-any : goal.returns-clause-any
returns-clause-any c = idle_is_alike

pub returns-clause-own : goal.returns-clause-own
returns-clause-own c = idle_means_alike

pub returns-clause-over : goal.returns-clause-over
returns-clause-over c = idle_over_means_alike
