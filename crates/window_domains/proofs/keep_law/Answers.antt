use Rattle.window_domains.proofs.Kept.{enters, own_keeps}
use Rattle.window_domains.proofs.keep_law.Goals as goal

pub returns-clause-enters : goal.returns-clause-enters
returns-clause-enters c = enters

pub returns-clause-own : goal.returns-clause-own
returns-clause-own c = own_keeps
