use Rattle.page_looks.proofs.Turned.{each_has_its_turn}
use Rattle.page_looks.proofs.Went.{each_is_noted}
use Rattle.page_looks.proofs.idle.laws.turn_law.Goals as goal

pub returns-clause-turns : goal.returns-clause-turns
returns-clause-turns c = each_has_its_turn

pub returns-clause-noted : goal.returns-clause-noted
returns-clause-noted c = each_is_noted
