-- What a run of the guests' threads does while an observer is shown the merger's reports.
use Rattle.std.specs.Prelude.{ℕ, List}
use Rattle.page_model.specs.Parts.{Totals}
use Rattle.page_model.specs.declared.hashing.HashFunction.{Ghosts}
use Rattle.merge_machine.specs.declared.merger.Merger.{Merger}
use Rattle.merge_run.specs.Observed.{ObservesMerger}
use Rattle.merge_run.specs.Turns.{HasRun}
use Rattle.merge_run.specs.declared.task.DoneTask.{DoneTask}
use Rattle.merge_run.specs.declared.task.Task.{Task}

module _ {H A O : Type 0} {ghosts : Ghosts H} where
  -- the first of the tasks were done, as many as came back, and the observer was shown all that the merger served
  pub record HasRunObserved (hash : ℕ → List ℕ → ℕ) (name : O → ℕ) (kept : O → List Totals) (becomes : O → Totals → ℕ → O → Type 0)
      (tasks : List (Task A)) (merger : Merger H A ghosts) (o : O) (merger' : Merger H A ghosts) (done : List (DoneTask A))
      (o' : O) : Type 0 where
    pub run : HasRun tasks merger merger' done
    pub observer : ObservesMerger name kept becomes hash o o' merger merger'
