use Rattle.window_pages.proofs.Counting.{begins_counted, each_is_counted}
use Rattle.window_pages.proofs.laws.counts_law.Goals as goal

pub returns-clause-begins : goal.returns-clause-begins
returns-clause-begins c = begins_counted

pub returns-clause-follows : goal.returns-clause-follows
returns-clause-follows c = each_is_counted
