use Rattle.lending_laws.proofs.Ends.{each_end_is_well, each_end_is_well_in_all}
use Rattle.lending_laws.proofs.Lender.{each_call_goes_on}
use Rattle.lending_laws.proofs.ProcessCalls.{each_call_goes_on_in_all}
use Rattle.lending_laws.proofs.lender_law.Goals as goal

pub returns-clause-calls : goal.returns-clause-calls
returns-clause-calls c = each_call_goes_on

pub returns-clause-windows : goal.returns-clause-windows
returns-clause-windows c = each_call_goes_on_in_all

pub returns-clause-ends : goal.returns-clause-ends
returns-clause-ends c = each_end_is_well

pub returns-clause-ends_in_all : goal.returns-clause-ends_in_all
returns-clause-ends_in_all c = each_end_is_well_in_all
