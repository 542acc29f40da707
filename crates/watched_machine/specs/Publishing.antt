-- What one more publish of a merger does, and what stays true of published reports.
use Rattle.std.specs.Prelude.{ℕ, List, ◌++◌}
use Rattle.page_model.specs.Pages.{State}
use Rattle.page_model.specs.Parts.{Totals}
use Rattle.page_model.specs.declared.hashing.HashFunction.{Ghosts}
use Rattle.page_model.specs.declared.request.Entry.{Entry}
use Rattle.merge_machine.specs.View.{journal_of, machine_of}
use Rattle.watched_machine.specs.Lists.{list_told}
use Rattle.watched_machine.specs.Published.{Publishes}
use Rattle.watched_machine.specs.declared.told.Told.{Told}
use Rattle.merge_run.specs.Fronts.{AreOfFronts, report_after}
use Rattle.watched_machine.specs.View.{merger_in, publisher_in}
use Rattle.watched_machine.specs.declared.merger.Merger.{Merger}

module _ {H A : Type 0} {ghosts : Ghosts H} where
  -- The report of the replay of the merger's whole journal comes after all that were published before. The `Told` is of them
  -- all: their entry counts never fall, and each is the report of a front of this journal.
  pub record PublishesJournal (hash : ℕ → List ℕ → ℕ) (before after : Merger H A ghosts) (t : Told) : Type 0 where
    pub publishes : Publishes (publisher_in before) (publisher_in after)
        (report_after hash (machine_of (merger_in before)) (journal_of (merger_in before))) t
    pub fronts : AreOfFronts hash (machine_of (merger_in before)) (journal_of (merger_in before)) (list_told t)

-- reports of fronts of a journal are reports of fronts of each longer one
abbrev pub ReportsStay : Type 0
ReportsStay =
    (hash : ℕ → List ℕ → ℕ) (machine : State) (journal more : List Entry) (reports : List Totals)
    → AreOfFronts hash machine journal reports → AreOfFronts hash machine (journal ++ more) reports
