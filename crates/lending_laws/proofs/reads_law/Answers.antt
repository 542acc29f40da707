use Rattle.lending_laws.proofs.Kept.{each_belief_is_right, each_order_is_due, each_order_is_possible, each_page_is_read, start_begins}
use Rattle.lending_laws.proofs.Over.{each_frame_is_noted}
use Rattle.lending_laws.proofs.Pages.{keeps_reading}
use Rattle.lending_laws.proofs.reads_law.Goals as goal

pub returns-clause-reads : goal.returns-clause-reads
returns-clause-reads c = each_page_is_read

pub returns-clause-believed : goal.returns-clause-believed
returns-clause-believed c = each_belief_is_right

pub returns-clause-possible : goal.returns-clause-possible
returns-clause-possible c = each_order_is_possible

pub returns-clause-named : goal.returns-clause-named
returns-clause-named c = each_order_is_due

pub returns-clause-events : goal.returns-clause-events
returns-clause-events c = keeps_reading

pub returns-clause-begins : goal.returns-clause-begins
returns-clause-begins c = start_begins

pub returns-clause-over : goal.returns-clause-over
returns-clause-over c = each_frame_is_noted
