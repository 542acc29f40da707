-- The faults of this crate's calls: what each says of a text or of its run, what would have been right, and their lines.
use Rattle.std.specs.Prelude.{ℕ, List, ◌++◌, codes, Result, Ok, Err}
use Rattle.merge_run.specs.declared.run_fault.RunFault.{RunFault}
use Rattle.merge_run.specs.declared.run_fault.RunFault.TheVariants as runs
use Rattle.text_words.specs.Expected as words
use Rattle.text_words.specs.Printed as words_printed
use Rattle.text_words.specs.declared.fault.TextFault as text
use Rattle.text_words.specs.declared.fault.TextFault.TheVariants as faults
use Rattle.share_text.specs.declared.fault.TextFault.{TextFault}
use Rattle.share_text.specs.declared.fault.TextFault.TheVariants.{Line, Truncated, Count, OutOfMemory, Read, Write, Run, Long}
use Rattle.share_text.specs.declared.threaded_fault.ThreadedFault.{ThreadedFault}
use Rattle.share_text.specs.declared.threaded_fault.ThreadedFault.TheVariants as threaded

-- the fault of a text or of the work on it, as the crates of texts have it, or that of a run
unfoldable pub plain : TextFault → Result text.TextFault RunFault
plain (Line n cause) = Ok (faults.Line n cause)
plain (Truncated n) = Ok (faults.Truncated n)
plain Count = Ok faults.Count
plain OutOfMemory = Ok faults.OutOfMemory
plain Read = Ok faults.Read
plain Write = Ok faults.Write
plain (Run fault) = Err fault
plain Long = Ok faults.Long

-- the fault is a text's, of which P holds
abbrev pub IsText : {X : Type 0} → Result text.TextFault RunFault → (Result X text.TextFault → Type 0) → Type 0
IsText (Ok fault) P = P (Err fault)
IsText (Err run) P = ⊥

-- The answer, of which P holds: no run was refused.
abbrev pub AsText : {X : Type 0} → Result X TextFault → (Result X text.TextFault → Type 0) → Type 0
AsText (Ok x) P = P (Ok x)
AsText (Err fault) P = IsText (plain fault) P

-- the fault is a text's, or that no thread could be started, of which P holds
abbrev pub IsThreaded : Result text.TextFault RunFault → (Result (Unit {0}) ThreadedFault → Type 0) → Type 0
IsThreaded (Ok fault) P = P (Err (threaded.Text fault))
IsThreaded (Err runs.NoThread) P = P (Err threaded.NoThread)
IsThreaded (Err runs.Frames) P = ⊥
IsThreaded (Err runs.Guests) P = ⊥
IsThreaded (Err runs.Pages) P = ⊥
IsThreaded (Err runs.Ring) P = ⊥
IsThreaded (Err runs.Journal) P = ⊥
IsThreaded (Err runs.OutOfMemory) P = ⊥
IsThreaded (Err (runs.Stopped full)) P = ⊥

-- The answer of an engine with threads, of which P holds: a run is refused for lack of a thread alone.
abbrev pub AsThreaded : Result (Unit {0}) TextFault → (Result (Unit {0}) ThreadedFault → Type 0) → Type 0
AsThreaded (Ok done) P = P (Ok done)
AsThreaded (Err fault) P = IsThreaded (plain fault) P

-- what would have been right instead of a refused run
abbrev pub run_expectation : RunFault → List ℕ
run_expectation runs.Frames = codes "1 to 1,048,576 frames"
run_expectation runs.Guests = codes "1 to 64 guests, with a salt each"
run_expectation runs.Pages = codes "a page or more for each guest, and at most 1,048,576 together"
run_expectation runs.Ring = codes "a ring of 1 to 65,536 requests"
run_expectation runs.Journal = codes "a journal of 1 to 16,777,216 requests"
run_expectation runs.OutOfMemory = codes "memory for the run"
run_expectation (runs.Stopped full) = codes "no more requests than the journal holds"
run_expectation runs.NoThread = codes "a thread for each guest"

-- what would have been right
abbrev pub plain_expectation : Result text.TextFault RunFault → List ℕ
plain_expectation (Ok fault) = words.expectation fault
plain_expectation (Err run) = run_expectation run

abbrev pub expectation : TextFault → List ℕ
expectation fault = plain_expectation (plain fault)

-- a refused run's word
abbrev pub run_word : RunFault → List ℕ
run_word runs.Frames = codes "frames"
run_word runs.Guests = codes "guests"
run_word runs.Pages = codes "pages"
run_word runs.Ring = codes "ring"
run_word runs.Journal = codes "journal"
run_word runs.OutOfMemory = codes "memory"
run_word (runs.Stopped full) = codes "stopped"
run_word runs.NoThread = codes "no-thread"

-- a refused run's line
abbrev pub run_line : RunFault → List ℕ
run_line run = codes "fault run: " ++ run_word run

-- a fault's line
abbrev pub plain_line : Result text.TextFault RunFault → List ℕ
plain_line (Ok fault) = words_printed.fault_line fault
plain_line (Err run) = run_line run

abbrev pub fault_line : TextFault → List ℕ
fault_line fault = plain_line (plain fault)
