use Rattle.page_lender.proofs.Wrong.{releases_shown, maps_uncompared, leaves_held, doubts_no_hold, trusts_release, sees_no_write, forgets_slot, takes_for_zeros}
use Rattle.page_lender.proofs.laws.wrong_lenders.Goals as goal

pub returns-clause-releases_shown : goal.returns-clause-releases_shown
returns-clause-releases_shown c = releases_shown

pub returns-clause-maps_uncompared : goal.returns-clause-maps_uncompared
returns-clause-maps_uncompared c = maps_uncompared

pub returns-clause-leaves_held : goal.returns-clause-leaves_held
returns-clause-leaves_held c = leaves_held

pub returns-clause-doubts_no_hold : goal.returns-clause-doubts_no_hold
returns-clause-doubts_no_hold c = doubts_no_hold

pub returns-clause-trusts_release : goal.returns-clause-trusts_release
returns-clause-trusts_release c = trusts_release

pub returns-clause-sees_no_write : goal.returns-clause-sees_no_write
returns-clause-sees_no_write c = sees_no_write

pub returns-clause-forgets_slot : goal.returns-clause-forgets_slot
returns-clause-forgets_slot c = forgets_slot

pub returns-clause-takes_for_zeros : goal.returns-clause-takes_for_zeros
returns-clause-takes_for_zeros c = takes_for_zeros
