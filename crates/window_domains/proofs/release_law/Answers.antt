use Rattle.window_domains.proofs.Released.{releases_by_events, leaves_by_events}
use Rattle.window_domains.proofs.release_law.Goals as goal

pub returns-clause-releases : goal.returns-clause-releases
returns-clause-releases c = releases_by_events

pub returns-clause-leaves : goal.returns-clause-leaves
returns-clause-leaves c = leaves_by_events
