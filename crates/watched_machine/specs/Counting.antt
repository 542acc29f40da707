-- The rule of a publisher's log, and what its steps say.
use Rattle.std.specs.Prelude.{ℕ, ◌≡◌, ◌==◌, true, List, [], ◌∷◌, ◌++◌, length, MatchBool}
use Rattle.logbook.specs.Pages.{Cell, Step, View, Book, Named}
use Rattle.page_model.specs.Parts.{Totals}

-- The first word is the number of reports. A log has two words, and the second stays 0
pub record CountsReports (cells : List Cell) (log : List Totals) : Type 0 where
  pub words : cells ≡ (length log, true) ∷ (0, true) ∷ []

-- the counter of this log
abbrev pub counter_of : Book → Named
counter_of log = record { tracked = true; key = 0; book = log }

-- if the counter held the known number, the report comes right after all that were known
abbrev pub AddsReport : Step Totals → View Totals ℕ → ℕ → View Totals ℕ → Type 0
AddsReport step before found after = MatchBool (found == step.old) (after.0 ≡ before.0 ++ step.ask ∷ []) (Unit {0})
