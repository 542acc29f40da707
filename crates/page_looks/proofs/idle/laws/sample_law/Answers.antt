use Rattle.page_looks.proofs.Sampled.{left_out_has_no_turn, each_is_sampled}
use Rattle.page_looks.proofs.idle.laws.sample_law.Goals as goal

pub returns-clause-left_out : goal.returns-clause-left_out
returns-clause-left_out c = left_out_has_no_turn

pub returns-clause-taken : goal.returns-clause-taken
returns-clause-taken c = each_is_sampled
