use Rattle.lending_laws.proofs.Processes.{each_page_of_all_is_read, each_window_is_alone, no_slot_of_all_is_lost, none_of_all_is_released_shown}
use Rattle.lending_laws.proofs.process_law.Goals as goal

pub returns-clause-alone : goal.returns-clause-alone
returns-clause-alone c = each_window_is_alone

pub returns-clause-reads : goal.returns-clause-reads
returns-clause-reads c = each_page_of_all_is_read

pub returns-clause-ones : goal.returns-clause-ones
returns-clause-ones c = no_slot_of_all_is_lost

pub returns-clause-unshown : goal.returns-clause-unshown
returns-clause-unshown c = none_of_all_is_released_shown
