-- Reports of the fronts of a journal.
use Rattle.std.specs.Prelude.{◌≡◌, ℕ, ◌≤◌, List, length, take, All}
use Rattle.page_model.specs.Pages.{State, totals}
use Rattle.page_model.specs.Parts.{Totals}
use Rattle.page_model.specs.Replay.{state_after}
use Rattle.page_model.specs.declared.request.Entry.{Entry}

-- the report of the replay of a journal on this machine
abbrev pub report_after : (ℕ → List ℕ → ℕ) → State → List Entry → Totals
report_after hash machine journal = totals (state_after hash machine journal).entries (state_after hash machine journal).guests

-- the report is that of a front of the journal: the one with the number of entries that the report counts
abbrev pub IsOfFront : (ℕ → List ℕ → ℕ) → State → List Entry → Totals → Type 0
IsOfFront hash machine journal r = (r.entries ≤ length journal) × (r ≡ report_after hash machine (take r.entries journal))

-- each report is that of a front of the journal
abbrev pub AreOfFronts : (ℕ → List ℕ → ℕ) → State → List Entry → List Totals → Type 0
AreOfFronts hash machine journal reports = All (IsOfFront hash machine journal) reports
