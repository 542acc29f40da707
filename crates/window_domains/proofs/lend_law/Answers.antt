use Rattle.window_domains.proofs.Lent.{lends, lends_early, compares}
use Rattle.window_domains.proofs.lend_law.Goals as goal

pub returns-clause-lends : goal.returns-clause-lends
returns-clause-lends c = lends

pub returns-clause-fills : goal.returns-clause-fills
returns-clause-fills c = lends_early

pub returns-clause-compares : goal.returns-clause-compares
returns-clause-compares c = compares
