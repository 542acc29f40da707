-- What a replay writes.
use Rattle.std.specs.Prelude.{◌≡◌, ◌⊎◌, ℕ, Bool, false, List, [], ◌∷◌, ◌++◌, codes, Option, Result, Ok, Err}
use Rattle.std.specs.Prelude.{IfSome, IfErr, IsOk, IsErr, OnOk}
use Rattle.std.specs.Io.KnownBytes.{Appends, Keeps}
use Rattle.page_model.specs.Limits.{shapes}
use Rattle.page_model.specs.Pages.{State, totals}
use Rattle.page_model.specs.Replay.{empty_state, state_after, verdicts_of}
use Rattle.page_model.specs.Steps.{step}
use Rattle.page_model.specs.declared.request.Entry.{Entry}
use Rattle.page_model.specs.declared.verdict.Verdict.{Verdict}
use Rattle.journal_text.specs.Texts.{Journal, journal_of}
use Rattle.text_words.specs.Printed.{fault_line}
use Rattle.journal_text.specs.Printed.{verdict_line, report_line}
use Rattle.text_words.specs.Words.{◌>>=◌}
use Rattle.journal_replay.specs.Ends.{AppendsFront, has_read_fault, has_write_fault}
use Rattle.text_words.specs.declared.fault.TextFault.{TextFault}
use Rattle.text_words.specs.declared.fault.TextFault.TheVariants as faults

-- a verdict line for each entry, in order, each with its line feed
abbrev pub verdict_lines : List Entry → List Verdict → List ℕ
verdict_lines [] verdicts = []
verdict_lines (e ∷ es) [] = []
verdict_lines (e ∷ es) (verdict ∷ verdicts) = (verdict_line e.guest verdict ++ codes "\n") ++ verdict_lines es verdicts

-- the line of the verdict that an entry gets in a state, with its line feed
abbrev pub served_line : (ℕ → List ℕ → ℕ) → State → Entry → List ℕ
served_line hash s e = verdict_line e.guest (step hash s e.guest e.request).verdict ++ codes "\n"

-- the lines of the entries' verdicts from a state on
abbrev pub lines_from : (ℕ → List ℕ → ℕ) → State → List Entry → List ℕ
lines_from hash s es = verdict_lines es (verdicts_of hash s es)

-- the line of a machine's report, with its line feed
abbrev pub report_text : State → List ℕ
report_text s = report_line (totals s.entries s.guests) ++ codes "\n"

-- the lines of the entries' verdicts from a state on, and then the report's
unfoldable pub printed_from : (ℕ → List ℕ → ℕ) → State → List Entry → List ℕ
printed_from hash s es = lines_from hash s es ++ report_text (state_after hash s es)

-- what the replay of a journal prints, under a hash
abbrev pub printed : (ℕ → List ℕ → ℕ) → Journal → List ℕ
printed hash j = printed_from hash (empty_state j.frames (shapes j.salts j.pages)) j.entries

-- what a text's journal prints, or the text's first fault
unfoldable pub answer_of : (ℕ → List ℕ → ℕ) → List ℕ → Result (List ℕ) TextFault
answer_of hash text = journal_of text >>= λ j. Ok (printed hash j)

-- what a replay of a text writes
abbrev pub written_for : Result (List ℕ) TextFault → List ℕ
written_for (Ok text) = text
written_for (Err fault) = fault_line fault ++ codes "\n"

-- Why printing a text failed: if memory ran out nothing went out, and if the writer failed a front did.
abbrev pub NotPrinted : Option (List ℕ) → Option (List ℕ) → List ℕ → TextFault → Type 0
NotPrinted old new text faults.OutOfMemory = Keeps old new
NotPrinted old new text faults.Write = AppendsFront old new text
NotPrinted old new text (faults.Line n cause) = ⊥
NotPrinted old new text (faults.Truncated n) = ⊥
NotPrinted old new text faults.Count = ⊥
NotPrinted old new text faults.Read = ⊥
NotPrinted old new text faults.Long = ⊥

-- A text was printed, or the answer says why it wasn't; no read failed, and a write did exactly if the answer says so.
pub record Prints
    (old new : Option (List ℕ)) (has_failed : Bool) (text : List ℕ) (r : Result (Unit {0}) TextFault)
    : Type 0 where
  pub ok : OnOk r (Appends old new text)
  pub err : IfErr r (λ e. NotPrinted old new text e)
  pub reader : has_read_fault r ≡ false
  pub writer : has_failed ≡ has_write_fault r

-- a fault of the text, whose line was written
abbrev pub WritesFault : TextFault → Option (List ℕ) → Option (List ℕ) → Result (List ℕ) TextFault → Type 0
WritesFault fault old new answer = (answer ≡ Err fault) × Appends old new (written_for answer)

-- How a refusal for a fault ends: its line went out, or a front of it since the writer failed, or nothing since memory ran out.
abbrev pub Refuses : TextFault → Option (List ℕ) → Option (List ℕ) → TextFault → Type 0
Refuses fault old new e =
    ((e ≡ fault) × Appends old new (fault_line fault ++ codes "\n"))
    ⊎ ((e ≡ faults.Write) × AppendsFront old new (fault_line fault ++ codes "\n"))
    ⊎ ((e ≡ faults.OutOfMemory) × Keeps old new)

-- How work on a text at fault ends: for a fault of the text its line is written, and other faults are only returned.
abbrev pub Refused : TextFault → Option (List ℕ) → Option (List ℕ) → Result (Unit {0}) TextFault → Type 0
Refused (faults.Line n cause) old new r = IsErr r × IfErr r (λ e. Refuses (faults.Line n cause) old new e)
Refused (faults.Truncated n) old new r = IsErr r × IfErr r (λ e. Refuses (faults.Truncated n) old new e)
Refused faults.Count old new r = IsErr r × IfErr r (λ e. Refuses faults.Count old new e)
Refused faults.OutOfMemory old new r = (r ≡ Err faults.OutOfMemory) × Keeps old new
Refused faults.Long old new r = (r ≡ Err faults.Long) × Keeps old new
Refused faults.Read old new r = (r ≡ Err faults.Read) × Keeps old new
Refused faults.Write old new r = (r ≡ Err faults.Write) × Keeps old new

-- What an engine does with the bytes; answer has the output for each input, or the input's fault. input: what the reader had;
-- old and new: what the writer holds.
abbrev pub Writes : (List ℕ → Result (List ℕ) TextFault)
    → Option (List ℕ) → Option (List ℕ) → Option (List ℕ) → Result (Unit {0}) TextFault → Type 0
Writes answer input old new (Ok done) = IfSome input (λ text. IsOk (answer text) × Appends old new (written_for (answer text)))
Writes answer input old new (Err (faults.Line n cause)) = IfSome input (λ text. WritesFault (faults.Line n cause) old new (answer text))
Writes answer input old new (Err (faults.Truncated n)) = IfSome input (λ text. WritesFault (faults.Truncated n) old new (answer text))
Writes answer input old new (Err faults.Count) = IfSome input (λ text. WritesFault faults.Count old new (answer text))
Writes answer input old new (Err faults.OutOfMemory) = Keeps old new
Writes answer input old new (Err faults.Read) = Keeps old new
Writes answer input old new (Err faults.Write) = IfSome input (λ text. AppendsFront old new (written_for (answer text)))
Writes answer input old new (Err faults.Long) = IfSome input (λ text. answer text ≡ Err faults.Long) × Keeps old new

-- what a replay of a journal does with the bytes
abbrev pub Replays : (ℕ → List ℕ → ℕ)
    → Option (List ℕ) → Option (List ℕ) → Option (List ℕ) → Result (Unit {0}) TextFault → Type 0
Replays hash input old new r = Writes (answer_of hash) input old new r
