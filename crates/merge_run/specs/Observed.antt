-- What becomes of an observer of a run.
use Rattle.std.specs.Prelude.{◌≡◌, ℕ, List, length}
use Rattle.page_model.specs.Pages.{State}
use Rattle.page_model.specs.Parts.{Totals}
use Rattle.page_model.specs.declared.hashing.HashFunction.{Ghosts}
use Rattle.page_model.specs.declared.request.Entry.{Entry}
use Rattle.merge_core.specs.Shown.{state_of}
use Rattle.merge_machine.specs.Machines.{opening}
use Rattle.merge_machine.specs.View.{journal_of, machine_of}
use Rattle.merge_machine.specs.declared.merger.Merger.{Merger}
use Rattle.merge_settle.specs.View.{settled_journal, settled_core}
use Rattle.merge_settle.specs.declared.settled.Settled.{Settled}
use Rattle.merge_run.specs.Fronts.{AreOfFronts}
use Rattle.merge_run.specs.Showings.{WasShown}

-- It is the same observer. It was shown the run all along, from the moment at which the journal had so many entries, and each
-- report that it kept is that of a front of this journal.
pub record Observes {O : Type 0} (name : O → ℕ) (kept : O → List Totals) (becomes : O → Totals → ℕ → O → Type 0) (hash : ℕ → List ℕ → ℕ)
    (before after : O) (machine : State) (from : ℕ) (journal : List Entry) : Type 0 where
  pub same : name after ≡ name before
  pub fronts : AreOfFronts hash machine journal (kept after)
  pub shown : WasShown becomes hash before after machine from journal

module _ {H A : Type 0} {ghosts : Ghosts H} where
  -- it observed what this merger served to become the other
  abbrev pub ObservesMerger : {O : Type 0} → (O → ℕ) → (O → List Totals) → (O → Totals → ℕ → O → Type 0) → (ℕ → List ℕ → ℕ) → O → O
      → Merger H A ghosts → Merger H A ghosts → Type 0
  ObservesMerger name kept becomes hash o o' old new = Observes name kept becomes hash o o' (machine_of new) (length (journal_of old))
      (journal_of new)

  -- it observed the whole run of the settled machine
  abbrev pub ObservesRun : {O : Type 0} → (O → ℕ) → (O → List Totals) → (O → Totals → ℕ → O → Type 0) → (ℕ → List ℕ → ℕ) → O → O
      → Settled H A ghosts → Type 0
  ObservesRun name kept becomes hash o o' s = Observes name kept becomes hash o o' (opening (state_of (settled_core s))) 0
      (settled_journal s)
