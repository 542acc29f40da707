use Rattle.lending_laws.proofs.Wrong.{forgets_a_slot, forgets_a_stuck_page, gives_twice, gives_two_windows, maps_after_discard, takes_for_another, tells_of_another, tells_too_early}
use Rattle.lending_laws.proofs.wrong_windows.Goals as goal

pub returns-clause-gives_twice : goal.returns-clause-gives_twice
returns-clause-gives_twice c = gives_twice

pub returns-clause-gives_two_windows : goal.returns-clause-gives_two_windows
returns-clause-gives_two_windows c = gives_two_windows

pub returns-clause-forgets_a_slot : goal.returns-clause-forgets_a_slot
returns-clause-forgets_a_slot c = forgets_a_slot

pub returns-clause-forgets_a_stuck_page : goal.returns-clause-forgets_a_stuck_page
returns-clause-forgets_a_stuck_page c = forgets_a_stuck_page

pub returns-clause-maps_after_discard : goal.returns-clause-maps_after_discard
returns-clause-maps_after_discard c = maps_after_discard

pub returns-clause-takes_for_another : goal.returns-clause-takes_for_another
returns-clause-takes_for_another c = takes_for_another

pub returns-clause-tells_of_another : goal.returns-clause-tells_of_another
returns-clause-tells_of_another c = tells_of_another

pub returns-clause-tells_too_early : goal.returns-clause-tells_too_early
returns-clause-tells_too_early c = tells_too_early
