-- What the run of a script writes, once it has ended with some journal.
use Rattle.std.specs.Prelude.{◌≡◌, ℕ, zero, suc, ◌+◌, List, [], ◌∷◌, ◌++◌, codes, length, map}
use Rattle.page_model.specs.Journal as journal
use Rattle.page_model.specs.Limits.{shapes}
use Rattle.page_model.specs.Pages.{State}
use Rattle.page_model.specs.Replay.{empty_state, state_after}
use Rattle.page_model.specs.declared.request.Entry.{Entry}
use Rattle.page_model.specs.declared.verdict.Verdict.{Verdict}
use Rattle.merge_machine.specs.Scripts.{with_close}
use Rattle.journal_text.specs.Printed.{verdict_line}
use Rattle.journal_replay.specs.Replayed.{report_text}
use Rattle.journal_text.specs.Texts.{AreBelow}
use Rattle.journal_text.specs.Written.{journal_text}
use Rattle.script_text.specs.Texts.{Script}
use Rattle.share_text.specs.declared.form.Output.{Output}
use Rattle.share_text.specs.declared.form.Output.TheVariants.{Verdicts, JournalText}

-- n values of f, at k and the numbers after it; n is the last argument
abbrev pub each_from : {X : Type 0} → (ℕ → X) → ℕ → ℕ → List X
each_from f k zero = []
each_from f k (suc n) = f k ∷ each_from f (k + 1) n

-- a script's machine, before its first request
abbrev pub machine : Script → State
machine s = empty_state s.frames (shapes s.salts s.pages)

-- A run of this script may have this journal: all its entries are of the script's guests, and each guest asks for what its
-- script says, and then closes; guest 0's script is the first.
pub record IsRunOf (s : Script) (es : List Entry) : Type 0 where
  pub members : AreBelow (length s.pages) es
  pub asked : each_from (λ guest. journal.asked guest es) 0 (length s.pages) ≡ map with_close s.scripts

-- the lines of a guest's verdicts, each with its line feed
abbrev pub guest_lines : ℕ → List Verdict → List ℕ
guest_lines guest [] = []
guest_lines guest (verdict ∷ verdicts) = (verdict_line guest verdict ++ codes "\n") ++ guest_lines guest verdicts

-- the lines of the verdicts of each guest from this one on, guest by guest
abbrev pub lists_lines : ℕ → List (List Verdict) → List ℕ
lists_lines guest [] = []
lists_lines guest (list ∷ lists) = guest_lines guest list ++ lists_lines (guest + 1) lists

-- what each guest of a script gets in a run with this journal: the verdicts of one thread that replays the journal
abbrev pub answers : (ℕ → List ℕ → ℕ) → Script → List Entry → List (List Verdict)
answers hash s es = each_from (λ guest. journal.answers hash (machine s) guest es) 0 (length s.pages)

-- what is written of a run with this journal: each guest's verdicts, guest 0's first, and the report; or the journal
abbrev pub run_text : (ℕ → List ℕ → ℕ) → Output → Script → List Entry → List ℕ
run_text hash Verdicts s es = lists_lines 0 (answers hash s es) ++ report_text (state_after hash (machine s) es)
run_text hash JournalText s es = journal_text (record { frames = s.frames; pages = s.pages; salts = s.salts; entries = es })
