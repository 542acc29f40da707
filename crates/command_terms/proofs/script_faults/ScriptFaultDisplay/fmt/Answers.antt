use Rattle.std.proofs.Common.{sym, ap}
use Rattle.std.proofs.Output.{has_written_of_eq}
use Rattle.command_terms.specs.Scripts.{shown_text}
use Rattle.command_terms.proofs.script_faults.ScriptFaultDisplay.fmt.Goals as goal

pub returns-in-Line-clause-writes : goal.returns-in-Line-clause-writes
returns-in-Line-clause-writes g c = λ plain ok. has_written_of_eq _ _ _ _ _ (sym (ap shown_text c.in-Line.is)) (c.write.ensures.writes plain ok)
