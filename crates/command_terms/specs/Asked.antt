-- What a command line can ask for.
use Rattle.std.specs.Prelude.{ℕ, Bool, true, false, List, codes, Option, Some, None}
use Rattle.std.specs.Borrow.{Bor}
use Rattle.command_terms.specs.declared.asked.Work.{Work}
use Rattle.command_terms.specs.declared.asked.Work.TheVariants.{Replay, Serial, Run}

-- whether the work is on a script, and not on a journal
abbrev pub is_of_script : Work → Bool
is_of_script Replay = false
is_of_script Serial = true
is_of_script (Run is_journal progress) = true

-- what a fault calls the input: the file by its path
abbrev pub input_name : Option (Bor (List ℕ)) → List ℕ
input_name (Some path) = path.now
input_name None = codes "standard input"
