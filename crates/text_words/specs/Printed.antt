-- Numbers behind words, and the lines of faults, without their line feeds.
use Rattle.std.specs.Prelude.{ℕ, List, ◌++◌, codes, decimal}
use Rattle.text_words.specs.declared.fault.Cause.{Cause}
use Rattle.text_words.specs.declared.fault.Cause.TheVariants as causes
use Rattle.text_words.specs.declared.fault.TextFault.{TextFault}
use Rattle.text_words.specs.declared.fault.TextFault.TheVariants as faults

-- words with their spaces, and a number
abbrev pub counted : List ℕ → ℕ → List ℕ
counted words n = words ++ decimal n

abbrev pub cause_word : Cause → List ℕ
cause_word causes.Header = codes "header"
cause_word causes.Form = codes "form"
cause_word causes.Frames = codes "frames"
cause_word causes.Guests = codes "guests"
cause_word causes.Pages = codes "pages"
cause_word causes.Ring = codes "ring"
cause_word causes.Journal = codes "journal"
cause_word causes.NoGuest = codes "no-guest"
cause_word causes.Length = codes "length"
cause_word causes.Crosses = codes "crosses"
cause_word causes.AfterClose = codes "after-close"
cause_word causes.TooMany = codes "too-many"
cause_word causes.Salts = codes "salts"

-- a fault's line
unfoldable pub fault_line : TextFault → List ℕ
fault_line (faults.Line n cause) = counted (codes "fault line ") n ++ (codes ": " ++ cause_word cause)
fault_line (faults.Truncated n) = counted (codes "fault truncated line ") n
fault_line faults.Count = codes "fault count"
fault_line faults.OutOfMemory = codes "fault memory"
fault_line faults.Read = codes "fault read"
fault_line faults.Write = codes "fault write"
fault_line faults.Long = codes "fault long"
