-- What the engine with threads does with the bytes of its reader and its writer.
use Rattle.std.specs.Prelude.{◌≡◌, ℕ, Bool, false, List, ◌++◌, codes, map, Option, Result, Ok, Err, IfSome, IfOk, IfErr, OnOk}
use Rattle.std.specs.Io.KnownBytes.{Appends}
use Rattle.page_model.specs.declared.hashing.HashFunction.{Ghosts}
use Rattle.page_model.specs.declared.request.Entry.{Entry}
use Rattle.merge_core.specs.Shown.{state_of}
use Rattle.merge_machine.specs.declared.config.Config.{Config}
use Rattle.merge_run.specs.View.{settled_journal, settled_core}
use Rattle.merge_run.specs.declared.finished.Finished.{Finished}
use Rattle.merge_run.specs.declared.run_fault.RunFault.{RunFault}
use Rattle.merge_run.specs.declared.run_fault.RunFault.TheVariants as runs
use Rattle.journal_replay.specs.Ends.{has_read_fault, has_write_fault}
use Rattle.journal_replay.specs.Replayed.{report_text, NotPrinted, Writes}
use Rattle.text_words.specs.Words.{◌>>=◌}
use Rattle.journal_text.specs.Written.{journal_text}
use Rattle.text_words.specs.declared.fault.TextFault.{TextFault}
use Rattle.script_text.specs.Texts.{Script, script_of}
use Rattle.share_text.specs.Faults.{run_line}
use Rattle.share_text.specs.Runs.{IsRunOf, lists_lines, run_text}
use Rattle.share_text.specs.declared.threaded_fault.ThreadedFault.{ThreadedFault}
use Rattle.share_text.specs.declared.threaded_fault.ThreadedFault.TheVariants as threaded
use Rattle.share_text.specs.declared.form.Output.{Output}
use Rattle.share_text.specs.declared.form.Output.TheVariants.{Verdicts, JournalText}

-- how the run of a script ends: with a journal, or refused because the start of a guest's thread was
pub data Outcome : Type 0 where
  Ran : (es : List Entry) → Outcome
  NoThread : Outcome

-- the run of this script may end like this
abbrev pub CanEnd : Script → Outcome → Type 0
CanEnd s (Ran es) = IsRunOf s es
CanEnd s NoThread = Unit {0}

-- the line of a run that was refused, with its line feed
abbrev pub no_thread_text : List ℕ
no_thread_text = run_line runs.NoThread ++ codes "\n"

-- what is written of a run that ended like this: the output for its journal, or the line of its fault
abbrev pub outcome_text : (ℕ → List ℕ → ℕ) → Output → Script → Outcome → List ℕ
outcome_text hash form s (Ran es) = run_text hash form s es
outcome_text hash form s NoThread = no_thread_text

-- what is written for a text if the run of its script ends like this, or the text's first fault
unfoldable pub run_answer : (ℕ → List ℕ → ℕ) → Output → Outcome → List ℕ → Result (List ℕ) TextFault
run_answer hash form outcome text = script_of text >>= λ s. Ok (outcome_text hash form s outcome)

-- an answer of work in which no run was refused
abbrev pub of_text : Result (Unit {0}) TextFault → Result (Unit {0}) ThreadedFault
of_text (Ok done) = Ok done
of_text (Err fault) = Err (threaded.Text fault)

-- Why not all that is due was written. For a refused run its line is due, and its fault means that the line was written.
abbrev pub as_written : Result (Unit {0}) ThreadedFault → Result (Unit {0}) TextFault
as_written (Ok done) = Ok done
as_written (Err (threaded.Text fault)) = Err fault
as_written (Err threaded.NoThread) = Ok tt

-- A run that ended like this may be answered like this: by Ok if it has a journal, and by its fault if it was refused. A fault
-- of the text, or of the work on it, may come with either.
abbrev pub Answers : Outcome → Result (Unit {0}) ThreadedFault → Type 0
Answers (Ran es) (Ok done) = Unit {0}
Answers NoThread (Ok done) = ⊥
Answers (Ran es) (Err threaded.NoThread) = ⊥
Answers NoThread (Err threaded.NoThread) = Unit {0}
Answers (Ran es) (Err (threaded.Text fault)) = Unit {0}
Answers NoThread (Err (threaded.Text fault)) = Unit {0}

-- What `threaded` does with the bytes, in this form: the run of the input's script, if the input has one, ended in one of the
-- ways in which it may; the answer fits that way, and what was written is the output for it.
pub record Threads (hash : ℕ → List ℕ → ℕ) (form : Output) (input old new : Option (List ℕ))
    (r : Result (Unit {0}) ThreadedFault) : Type 0 where
  pub outcome : Outcome
  pub can_end : IfSome input (λ text. IfOk (script_of text) (λ s. CanEnd s outcome))
  pub answers : Answers outcome r
  pub writes : Writes (run_answer hash form outcome) input old new (as_written r)

-- neither end has failed yet
pub record NeitherFailed (read_failed write_failed : Bool) : Type 0 where
  pub reader : read_failed ≡ false
  pub writer : write_failed ≡ false

-- All that `threaded` does: what it does with the bytes, and that its answer shows which end failed.
pub record RunsText (hash : ℕ → List ℕ → ℕ) (form : Output) (input old new : Option (List ℕ)) (read_failed write_failed : Bool)
    (r : Result (Unit {0}) ThreadedFault) : Type 0 where
  pub bytes : Threads hash form input old new r
  pub reader : read_failed ≡ has_read_fault (as_written r)
  pub writer : write_failed ≡ has_write_fault (as_written r)

-- The causes that are left for the run of a script that was read: its machine is within the limits, and its journal has room
-- for all that its guests send.
abbrev pub IsLeft : RunFault → Type 0
IsLeft runs.OutOfMemory = Unit {0}
IsLeft runs.NoThread = Unit {0}
IsLeft runs.Frames = ⊥
IsLeft runs.Guests = ⊥
IsLeft runs.Pages = ⊥
IsLeft runs.Ring = ⊥
IsLeft runs.Journal = ⊥
IsLeft (runs.Stopped full) = ⊥

-- the work on a script whose run ended like this: the answer fits, and either its output was written, or the answer says why
-- not
pub record EndsAs (outcome : Outcome) (due : List ℕ) (old new : Option (List ℕ)) (r : Result (Unit {0}) ThreadedFault) : Type 0 where
  pub answers : Answers outcome r
  pub ok : OnOk (as_written r) (Appends old new due)
  pub err : IfErr (as_written r) (λ e. NotPrinted old new due e)

-- the work on a script ended as one of its runs does
pub record Serves (hash : ℕ → List ℕ → ℕ) (form : Output) (s : Script) (old new : Option (List ℕ))
    (r : Result (Unit {0}) ThreadedFault) : Type 0 where
  pub outcome : Outcome
  pub can_end : CanEnd s outcome
  pub ends : EndsAs outcome (outcome_text hash form s outcome) old new r

module _ {H A : Type 0} {ghosts : Ghosts H} where
  -- what is written of a run that has ended, by what it returned
  abbrev pub finished_text : Output → Config A → Finished H A ghosts → List ℕ
  finished_text Verdicts c f = lists_lines 0 (map (λ list. list.items) f.verdicts.items) ++ report_text (state_of (settled_core f.settled))
  finished_text JournalText c f = journal_text
      (record { frames = c.frames; pages = c.pages.items; salts = c.salts.items; entries = settled_journal f.settled })
