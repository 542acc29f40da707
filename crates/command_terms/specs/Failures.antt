-- What goes to standard error where a read or a write failed, or memory was refused.
use Rattle.std.specs.Prelude.{ℕ, List, Bool, true, false, codes, if◌then◌else◌, Option, Some, None}
use Rattle.text_words.specs.declared.fault.TextFault.{TextFault}
use Rattle.text_words.specs.declared.fault.TextFault.TheVariants as faults
use Rattle.text_words.specs.Printed.{fault_line}

-- whether the output has the line of a fault: that of a fault of the text, which was read and is answered
abbrev pub is_answered : TextFault → Bool
is_answered (faults.Line n cause) = true
is_answered (faults.Truncated n) = true
is_answered faults.Count = true
is_answered faults.OutOfMemory = false
is_answered faults.Read = false
is_answered faults.Write = false
is_answered faults.Long = false

-- the line on standard error: the fault's own, if the output doesn't have it
abbrev pub error_line : TextFault → Option (List ℕ)
error_line fault = if is_answered fault then None else Some (fault_line fault)

-- the name of what failed, and why: the input comes before the output
abbrev pub first_failure : {E : Type 0} → List ℕ → Option E → Option E → Option (List ℕ × E)
first_failure name (Some error) output = Some (name, error)
first_failure name None (Some error) = Some (codes "standard output", error)
first_failure name None None = None
