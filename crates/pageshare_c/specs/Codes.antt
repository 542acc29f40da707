-- The numbers that C reads.
use Rattle.std.specs.Prelude.{ℕ, true, length, Result, Ok, Err}
use Rattle.c_surface.specs.declared.status.TheConstants as status
use Rattle.page_model.specs.declared.verdict.Verdict.{Verdict}
use Rattle.page_model.specs.declared.verdict.Verdict.TheVariants.{NoPage, Unmapped, Already, Joined, Paired, Hinted, Kept, Replaced, Ineligible, Mapped, Stored, Copied, Taken, NoFrame, Bytes, Released, Totals, Closed}
use Rattle.pageshare_c.specs.declared.answer.Refusal.{Refusal}
use Rattle.pageshare_c.specs.declared.answer.Refusal.TheVariants as r

-- the status of a refusal
abbrev pub status_of : Refusal → ℕ
status_of r.NoMachine = status.NO_MACHINE
status_of r.NoGuest = status.NO_GUEST
status_of r.Full = status.FULL
status_of r.Length = status.LENGTH
status_of r.Crosses = status.CROSSES
status_of r.NoPage = status.NO_PAGE
status_of r.Unmapped = status.UNMAPPED

-- OK, or the refusal's status
abbrev pub status_in : {X : Type 0} → Result X Refusal → ℕ
status_in (Ok x) = status.OK
status_in (Err refusal) = status_of refusal

-- the verdict's number
abbrev pub code_of : Verdict → ℕ
code_of NoPage = 1
code_of Unmapped = 2
code_of Already = 3
code_of (Joined pages) = 4
code_of Paired = 5
code_of Hinted = 6
code_of Kept = 7
code_of Replaced = 8
code_of Ineligible = 9
code_of Mapped = 10
code_of Stored = 11
code_of Copied = 12
code_of Taken = 13
code_of NoFrame = 14
code_of (Bytes bytes) = 15
code_of (Released freed) = 16
code_of (Totals report) = 17
code_of Closed = 18

-- the number that comes with the verdict: how many pages share the frame, how many bytes were loaded, 1 if the frame is
-- free now
abbrev pub count_of : Verdict → ℕ
count_of (Joined pages) = pages
count_of (Bytes bytes) = length bytes.items
count_of (Released true) = 1
count_of _ = 0
