use Rattle.look_tasks.proofs.Apart.{stays_in_bounds, eager_comes_sooner, calm_comes_later}
use Rattle.look_tasks.proofs.time_laws.period_law.Goals as goal

pub returns-clause-bounds : goal.returns-clause-bounds
returns-clause-bounds c = stays_in_bounds

pub returns-clause-eager : goal.returns-clause-eager
returns-clause-eager c = eager_comes_sooner

pub returns-clause-calm : goal.returns-clause-calm
returns-clause-calm c = calm_comes_later
