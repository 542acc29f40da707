use Rattle.page_looks.proofs.Rested.{rests_within, changes_end_rests, all_are_sampled, each_is_glanced_at}
use Rattle.page_looks.proofs.idle.laws.rest_law.Goals as goal

pub returns-clause-most : goal.returns-clause-most
returns-clause-most c = rests_within

pub returns-clause-changes : goal.returns-clause-changes
returns-clause-changes c = changes_end_rests

pub returns-clause-all : goal.returns-clause-all
returns-clause-all c = all_are_sampled

pub returns-clause-glanced : goal.returns-clause-glanced
returns-clause-glanced c = each_is_glanced_at
