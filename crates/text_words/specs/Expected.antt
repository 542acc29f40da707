-- What would have been right instead of a fault of a text or of the work on it, in words for a person.
use Rattle.std.specs.Prelude.{ℕ, ◌==◌, if◌then◌else◌, List, codes}
use Rattle.text_words.specs.declared.fault.Cause.{Cause}
use Rattle.text_words.specs.declared.fault.Cause.TheVariants as causes
use Rattle.text_words.specs.declared.fault.TextFault.{TextFault}
use Rattle.text_words.specs.declared.fault.TextFault.TheVariants as faults

-- the form of line n
abbrev pub line_form : ℕ → List ℕ
line_form n =
    if n == 1 then codes "\"pageshare journal 1\" or \"pageshare journal 2\""
    else if n == 2 then codes "\"frames NUMBER\""
    else if n == 3 then codes "\"pages NUMBER ..\""
    else if n == 4 then
    codes "a request line, as \"GUEST propose PPN\", or \"end NUMBER\" with nothing behind that line; in version 2 \"salts NUMBER ..\""
    else codes "a request line, as \"GUEST propose PPN\", or \"end NUMBER\" with nothing behind that line"

-- what line n must be, if it is at fault for this cause
abbrev pub expected_on : ℕ → Cause → List ℕ
expected_on n causes.Header = line_form n
expected_on n causes.Form = line_form n
expected_on n causes.Frames = codes "1 to 1,048,576 frames"
expected_on n causes.Guests = codes "at most 64 guests"
expected_on n causes.Pages = codes "a page or more for each guest, and at most 1,048,576 together"
expected_on n causes.Ring = codes "a ring of 1 to 65,536 requests"
expected_on n causes.Journal = codes "a journal of 1 to 16,777,216 requests"
expected_on n causes.NoGuest = codes "a guest of the \"pages\" line, counted from 0"
expected_on n causes.Length = codes "1 to 64 bytes"
expected_on n causes.Crosses = codes "bytes that stay within the page's 4,096"
expected_on n causes.AfterClose = codes "nothing of this guest after its close"
expected_on n causes.TooMany = codes "no more requests than the \"journal\" line allows"
expected_on n causes.Salts = codes "one salt for each guest"

-- what would have been right
abbrev pub expectation : TextFault → List ℕ
expectation (faults.Line n cause) = expected_on n cause
expectation (faults.Truncated n) = line_form n
expectation faults.Count = codes "\"end NUMBER\" with the number of request lines"
expectation faults.OutOfMemory = codes "memory for the text, the machine and the output"
expectation faults.Read = codes "an input that can be read"
expectation faults.Write = codes "an output that takes what is written"
expectation faults.Long = codes "at most 67,108,864 bytes"
