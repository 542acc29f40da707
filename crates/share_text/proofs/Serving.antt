-- How the work on a script ends, and on a text.
use Rattle.std.proofs.Common.{◌≡◌, ◌≤◌, ℕ, List, length, Option, Some, None, Result, Ok, Err, true, false, refl, ap, sym, subst, nat_lt, arith}
use Rattle.std.specs.Prelude.{IfSome, IfOk, IfErr, OnOk, IsErr}
use Rattle.std.specs.Io.KnownBytes.{Appends}
use Rattle.std.specs.declared.vec.Vec.{Vec}
use Rattle.std.proofs.lemmas.Bool.{lt-ltb}
use Rattle.page_model.specs.declared.request.Entry.{Entry}
use Rattle.page_model.specs.declared.request.Request.{Request}
use Rattle.page_model.specs.declared.limits.TheConstants.{MAX_TEXT_BYTES}
use Rattle.merge_machine.specs.Limits.{IsMachine}
use Rattle.merge_machine.specs.declared.config.Config.{Config}
use Rattle.merge_run.specs.Runs.{NotRunFor}
use Rattle.merge_run.specs.declared.run_fault.RunFault.{RunFault}
use Rattle.merge_run.specs.declared.run_fault.RunFault.TheVariants as runs
use Rattle.journal_replay.specs.Ends.{NotRead, is_write_fault}
use Rattle.journal_replay.specs.Replayed.{NotPrinted, Refused, Writes}
use Rattle.text_words.specs.Views.{Fails}
use Rattle.text_words.specs.Words.{◌>>=◌}
use Rattle.text_words.specs.declared.fault.TextFault.{TextFault}
use Rattle.text_words.specs.declared.fault.TextFault.TheVariants as faults
use Rattle.journal_replay.proofs.Refusals.{KnowsLong, on_input, unread, prints, refused}
use Rattle.merge_machine.specs.Scripts.{entries_needed}
use Rattle.script_text.specs.Texts.{Script, script_of}
use Rattle.share_text.specs.Runs.{IsRunOf, run_text}
use Rattle.share_text.specs.Threads.{Outcome, Ran, NoThread, CanEnd, no_thread_text, outcome_text, run_answer, of_text, as_written, Threads, IsLeft, EndsAs, Serves}
use Rattle.share_text.specs.declared.threaded_fault.ThreadedFault.{ThreadedFault}
use Rattle.share_text.specs.declared.threaded_fault.ThreadedFault.TheVariants as threaded
use Rattle.share_text.specs.declared.form.Output.{Output}

-- what is due for a run that has ended was written, or the answer says why it wasn't
pub wrote : (hash : ℕ → List ℕ → ℕ) (form : Output) (s : Script) (es : List Entry) (old new : Option (List ℕ)) (r : Result (Unit {0}) TextFault)
    → IsRunOf s es → OnOk r (Appends old new (run_text hash form s es)) → IfErr r (λ e. NotPrinted old new (run_text hash form s es) e) → Serves hash form s old new (of_text r)
wrote hash form s es old new (Ok done) is ok err = record { outcome = Ran es; can_end = is; ends = record { answers = tt; ok = ok; err = tt } }
wrote hash form s es old new (Err e) is ok err = record { outcome = Ran es; can_end = is; ends = record { answers = tt; ok = tt; err = err } }

-- a script's run was refused, and the answer says so
pub not_run : (hash : ℕ → List ℕ → ℕ) (form : Output) (s : Script) (old new : Option (List ℕ)) (r : Result (Unit {0}) ThreadedFault) → EndsAs NoThread no_thread_text old new r → Serves hash form s old new r
not_run hash form s old new r ends = record { outcome = NoThread; can_end = tt; ends = ends }

module _ {A : Type 0} where
  -- Of the causes for which a run is refused, memory and threads alone are left for a script that was read.
  pub left : (c : Config A) (scripts : List (Vec Request A)) (fault : RunFault) → IsMachine c → entries_needed scripts ≤ c.journal → NotRunFor c scripts fault → IsLeft fault
  left c scripts runs.OutOfMemory is room why = tt
  left c scripts runs.NoThread is room why = tt
  left c scripts runs.Frames is room why = why is.0.0
  left c scripts runs.Guests is room why = why.1 is.0.1
  left c scripts runs.Pages is room why = why.2 is.0.2
  left c scripts runs.Ring is room why = why.1 is.1
  left c scripts runs.Journal is room why = why.2 is.2
  left c scripts (runs.Stopped full) is room why = omega (arith, room, why.1)

-- any script's run may end so
may_end : (input : Option (List ℕ)) → IfSome input (λ text. IfOk (script_of text) (λ s. CanEnd s NoThread))
may_end None = tt
may_end (Some text) = let P : (said : Result Script TextFault) → IfOk said (λ s. CanEnd s NoThread) = may_be in P (script_of text) where
  may_be : (said : Result Script TextFault) → IfOk said (λ s. CanEnd s NoThread)
  may_be (Ok s) = tt
  may_be (Err e) = tt

-- the answer to too long a text
too_long : (hash : ℕ → List ℕ → ℕ) (form : Output) (outcome : Outcome) → KnowsLong (run_answer hash form outcome)
unfolding run_answer script_of
too_long hash form outcome text h = let test : nat_lt MAX_TEXT_BYTES (length text) ≡ true = lt-ltb MAX_TEXT_BYTES (length text) h in rw test refl

-- a script's run gives the text's answer
answer_ok : (hash : ℕ → List ℕ → ℕ) (form : Output) (outcome : Outcome) (text : List ℕ) (s : Script) → script_of text ≡ Ok s → run_answer hash form outcome text ≡ Ok (outcome_text hash form s outcome)
unfolding run_answer
answer_ok hash form outcome text s h = let f : Result Script TextFault → Result (List ℕ) TextFault = λ r. r >>= λ x. Ok (outcome_text hash form x outcome) in ap f h

-- a text's fault is its answer
answer_err : (hash : ℕ → List ℕ → ℕ) (form : Output) (outcome : Outcome) (text : List ℕ) (fault : TextFault) → script_of text ≡ Err fault → run_answer hash form outcome text ≡ Err fault
unfolding run_answer
answer_err hash form outcome text fault h = let f : Result Script TextFault → Result (List ℕ) TextFault = λ r. r >>= λ x. Ok (outcome_text hash form x outcome) in ap f h

-- where reading failed, no write did
pub no_write : (input : Option (List ℕ)) (e : TextFault) → NotRead input e → is_write_fault e ≡ false
no_write input faults.OutOfMemory h = refl
no_write input faults.Read h = refl
no_write input faults.Long h = refl
no_write input (faults.Line n cause) h = refl
no_write input (faults.Truncated n) h = refl
no_write input faults.Count h = refl
no_write input faults.Write h = absurd h

-- where reading failed, nothing was written
pub threads_unread : (hash : ℕ → List ℕ → ℕ) (form : Output) (input old : Option (List ℕ)) (e : TextFault) → NotRead input e → Threads hash form input old old (Err (threaded.Text e))
threads_unread hash form input old e h = record {
  outcome = NoThread;
  can_end = may_end input;
  answers = tt;
  writes = unread (run_answer hash form NoThread) input old e (too_long hash form NoThread) h;
}

is_error : (r : Result (Unit {0}) TextFault) (e : TextFault) → r ≡ Err e → IsErr r
is_error r e h = let P : Result (Unit {0}) TextFault → Type 0 = λ x. IsErr x in subst P (sym h) refl

-- a text that was refused isn't answered by Ok
refused_err : (fault : TextFault) (old new : Option (List ℕ)) (r : Result (Unit {0}) TextFault) → Refused fault old new r → IsErr r
refused_err (faults.Line n cause) old new r h = h.0
refused_err (faults.Truncated n) old new r h = h.0
refused_err faults.Count old new r h = h.0
refused_err faults.OutOfMemory old new r h = is_error r faults.OutOfMemory h.0
refused_err faults.Long old new r h = is_error r faults.Long h.0
refused_err faults.Read old new r h = is_error r faults.Read h.0
refused_err faults.Write old new r h = is_error r faults.Write h.0

-- an answer of work in which no run was refused, where it is a fault
fault_written : (hash : ℕ → List ℕ → ℕ) (form : Output) (input old new : Option (List ℕ)) (r : Result (Unit {0}) TextFault) → IsErr r → Writes (run_answer hash form NoThread) input old new r → Threads hash form input old new (of_text r)
fault_written hash form input old new (Ok done) is h = cc
fault_written hash form input old new (Err e) is h = record { outcome = NoThread; can_end = may_end input; answers = tt; writes = h }

-- where the text is at fault, the answer says so
pub threads_refused : (hash : ℕ → List ℕ → ℕ) (form : Output) (input old new : Option (List ℕ)) (text : List ℕ) (fault : TextFault) (r : Result (Unit {0}) TextFault)
    → IfSome input (λ bytes. text ≡ bytes) → Fails fault (script_of text) → Refused fault old new r → Threads hash form input old new (of_text r)
threads_refused hash form input old new text fault r same fails refuses =
    fault_written hash form input old new r (refused_err fault old new r refuses)
    (refused (run_answer hash form NoThread) input old new text (script_of text) fault r (λ e h. answer_err hash form NoThread text e h) same fails refuses)

-- where a script was read, its run is written
pub threads_served : (hash : ℕ → List ℕ → ℕ) (form : Output) (s : Script) (input old new : Option (List ℕ)) (text : List ℕ) (r : Result (Unit {0}) ThreadedFault)
    → IfSome input (λ bytes. text ≡ bytes) → script_of text ≡ Ok s → Serves hash form s old new r → Threads hash form input old new r
threads_served hash form s input old new text r same read served =
    let P : Result Script TextFault → Type 0 = λ said. IfOk said (λ x. CanEnd x served.outcome) in
    let Q : List ℕ → Type 0 = λ bytes. IfOk (script_of bytes) (λ x. CanEnd x served.outcome) in
    record {
      outcome = served.outcome;
      can_end = on_input input text Q same (subst P (sym read) served.can_end);
      answers = served.ends.answers;
      writes = prints (run_answer hash form served.outcome) input old new text (outcome_text hash form s served.outcome) (as_written r) same (answer_ok hash form served.outcome text s read) served.ends.ok served.ends.err;
    }
