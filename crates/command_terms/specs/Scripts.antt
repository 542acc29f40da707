-- What is printed of a fault of a script, for a person.
use Rattle.std.specs.Prelude.{ℕ, ◌==◌, if◌then◌else◌, List, ◌++◌, codes, decimal, Option, Some, None}
use Rattle.text_words.specs.declared.fault.Cause.{Cause}
use Rattle.text_words.specs.declared.fault.Cause.TheVariants as causes
use Rattle.text_words.specs.declared.fault.TextFault.{TextFault}
use Rattle.text_words.specs.declared.fault.TextFault.TheVariants as faults
use Rattle.command_terms.specs.declared.script_faults.ScriptFault.{ScriptFault}
use Rattle.command_terms.specs.declared.script_faults.ScriptFault.TheVariants as shown

-- the form of line n
abbrev pub line_form : ℕ → List ℕ
line_form n =
    if n == 1 then codes "\"pageshare script 1\" or \"pageshare script 2\""
    else if n == 2 then codes "\"frames NUMBER\""
    else if n == 3 then codes "\"pages NUMBER ..\""
    else if n == 4 then codes "\"ring NUMBER\"; in version 2 \"salts NUMBER ..\""
    else if n == 5 then codes "\"journal NUMBER\"; in version 2 \"ring NUMBER\""
    else if n == 6 then codes "a script line, as \"GUEST propose PPN\" or \"GUEST scan sequential NUMBER\", or \"end NUMBER\" with nothing behind that line; in version 2 \"journal NUMBER\""
    else codes "a script line, as \"GUEST propose PPN\" or \"GUEST scan sequential NUMBER\", or \"end NUMBER\" with nothing behind that line"

-- a line at fault, a line that is cut off, and a wrong number of lines, with what was expected
abbrev pub line_text : ℕ → List ℕ → List ℕ
line_text n form = codes "line " ++ (decimal n ++ (codes ": expected " ++ form))

abbrev pub cut_off_text : ℕ → List ℕ → List ℕ
cut_off_text n form = codes "line " ++ (decimal n ++ (codes " is cut off: expected " ++ (form ++ codes ", and a line feed behind it")))

abbrev pub count_text : List ℕ → List ℕ
count_text form = codes "the number of script lines is wrong: expected " ++ form

abbrev pub shown_text : ScriptFault → List ℕ
shown_text (shown.Line n form) = line_text n form.now
shown_text (shown.CutOff n form) = cut_off_text n form.now
shown_text (shown.Count form) = count_text form.now

-- what is printed of line n, if it is at fault for this cause; `None` if it is what is printed of a journal
abbrev pub line_fault_text : ℕ → Cause → Option (List ℕ)
line_fault_text n causes.Header = Some (line_text n (line_form n))
line_fault_text n causes.Form = Some (line_text n (line_form n))
line_fault_text n causes.Length = Some (line_text n (codes "1 to 64 bytes, or a scan of 1 page or more"))
line_fault_text n causes.Frames = None
line_fault_text n causes.Guests = None
line_fault_text n causes.Pages = None
line_fault_text n causes.Ring = None
line_fault_text n causes.Journal = None
line_fault_text n causes.NoGuest = None
line_fault_text n causes.Crosses = None
line_fault_text n causes.AfterClose = None
line_fault_text n causes.TooMany = None
line_fault_text n causes.Salts = None

-- what is printed of a fault
abbrev pub script_fault_text : TextFault → Option (List ℕ)
script_fault_text (faults.Line n cause) = line_fault_text n cause
script_fault_text (faults.Truncated n) = Some (cut_off_text n (line_form n))
script_fault_text faults.Count = Some (count_text (codes "\"end NUMBER\" with the number of script lines"))
script_fault_text faults.OutOfMemory = None
script_fault_text faults.Read = None
script_fault_text faults.Write = None
script_fault_text faults.Long = None
