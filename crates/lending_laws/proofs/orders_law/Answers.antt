use Rattle.lending_laws.proofs.Orders.{each_copy_may, each_hold_may, each_list_has_room, each_loan_may, each_map_may, each_question_may, each_return_may}
use Rattle.lending_laws.proofs.orders_law.Goals as goal

pub returns-clause-asks : goal.returns-clause-asks
returns-clause-asks c = each_question_may

pub returns-clause-copies : goal.returns-clause-copies
returns-clause-copies c = each_copy_may

pub returns-clause-loans : goal.returns-clause-loans
returns-clause-loans c = each_loan_may

pub returns-clause-holds : goal.returns-clause-holds
returns-clause-holds c = each_hold_may

pub returns-clause-returns : goal.returns-clause-returns
returns-clause-returns c = each_return_may

pub returns-clause-maps : goal.returns-clause-maps
returns-clause-maps c = each_map_may

pub returns-clause-room : goal.returns-clause-room
returns-clause-room c = each_list_has_room
