use Rattle.host_halves.proofs.Others.{others_keep, backs_keep, ends_keep, empties_keep}
use Rattle.host_halves.proofs.others_law.Goals as goal

pub returns-clause-packets : goal.returns-clause-packets
returns-clause-packets c = others_keep

pub returns-clause-backs : goal.returns-clause-backs
returns-clause-backs c = backs_keep

pub returns-clause-ends : goal.returns-clause-ends
returns-clause-ends c = ends_keep

pub returns-clause-empties : goal.returns-clause-empties
returns-clause-empties c = empties_keep
