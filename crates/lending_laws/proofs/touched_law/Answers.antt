use Rattle.lending_laws.proofs.Looks.{each_step_reads_what_it_may}
use Rattle.lending_laws.proofs.touched_law.Goals as goal

pub returns : goal.returns
returns c = each_step_reads_what_it_may
