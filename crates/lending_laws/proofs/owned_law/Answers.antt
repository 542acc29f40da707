use Rattle.lending_laws.proofs.Owned.{each_owned_call_counts, each_owned_call_goes_on}
use Rattle.lending_laws.proofs.OwnedSlots.{each_out_is_free}
use Rattle.lending_laws.proofs.OwnedWindows.{each_offer_goes_on, each_owned_begins, each_owned_end_is_well, each_take_out_goes_on}
use Rattle.lending_laws.proofs.owned_law.Goals as goal

pub returns-clause-calls : goal.returns-clause-calls
returns-clause-calls c = each_owned_call_goes_on

pub returns-clause-counted : goal.returns-clause-counted
returns-clause-counted c = each_owned_call_counts

pub returns-clause-begins : goal.returns-clause-begins
returns-clause-begins c = each_owned_begins

pub returns-clause-offers : goal.returns-clause-offers
returns-clause-offers c = each_offer_goes_on

pub returns-clause-takes_out : goal.returns-clause-takes_out
returns-clause-takes_out c = each_take_out_goes_on

pub returns-clause-out_is_free : goal.returns-clause-out_is_free
returns-clause-out_is_free c = each_out_is_free

pub returns-clause-ends : goal.returns-clause-ends
returns-clause-ends c = each_owned_end_is_well
