use Rattle.lending_laws.proofs.Holds.{each_comparison_is_true, each_hold_reads_the_same, each_step_agrees, each_truth_is_in_bytes, each_zero_is_true}
use Rattle.lending_laws.proofs.hold_reads_law.Goals as goal

pub returns-clause-reads : goal.returns-clause-reads
returns-clause-reads c = each_hold_reads_the_same

pub returns-clause-compared : goal.returns-clause-compared
returns-clause-compared c = each_comparison_is_true

pub returns-clause-zeros : goal.returns-clause-zeros
returns-clause-zeros c = each_zero_is_true

pub returns-clause-in_bytes : goal.returns-clause-in_bytes
returns-clause-in_bytes c = each_truth_is_in_bytes

pub returns-clause-steps : goal.returns-clause-steps
returns-clause-steps c = each_step_agrees
