-- What every report says, and how many frames are ever in use.
use Rattle.std.specs.Prelude.{◌≡◌, ℕ, ◌+◌, ◌≤◌, List, length}
use Rattle.page_model.specs.Parts.{Totals}
use Rattle.page_model.specs.Pages.{used, totals}
use Rattle.page_model.specs.Replay.{Shape, empty_state, state_after}
use Rattle.page_model.specs.declared.request.Entry.{Entry}

-- the report after a journal, for a machine with this total of frames and these guests
abbrev pub report_after : (ℕ → List ℕ → ℕ) → ℕ → List Shape → List Entry → Totals
report_after hash total shapes es = let s = state_after hash (empty_state total shapes) es in totals s.entries s.guests

-- how the numbers of a report are related
pub record AddUp (r : Totals) : Type 0 where
  pub reclaimed : r.reclaimed + r.frames ≡ r.mapped
  pub shared : r.shared ≤ r.mapped
  pub hints : r.hints ≤ r.frames

-- the report after this journal adds up, for every machine and hash
abbrev pub ReportAddsUp : List Entry → Type 0
ReportAddsUp es = (hash : ℕ → List ℕ → ℕ) (total : ℕ) (shapes : List Shape) → AddUp (report_after hash total shapes es)

-- and counts each entry of the journal
abbrev pub ReportCountsEntries : List Entry → Type 0
ReportCountsEntries es = (hash : ℕ → List ℕ → ℕ) (total : ℕ) (shapes : List Shape) → (report_after hash total shapes es).entries ≡ length es

-- after this journal at most as many frames are in use as the machine has, even if it has none
abbrev pub FramesSuffice : List Entry → Type 0
FramesSuffice es = (hash : ℕ → List ℕ → ℕ) (total : ℕ) (shapes : List Shape)
    → used (state_after hash (empty_state total shapes) es).guests ≤ total
