-- What a run of the guests' threads needs, and what the merger did once the guests that were started have ended.
use Rattle.std.specs.Prelude.{◌≡◌, ℕ, ◌<◌, ◌≤◌, true, List, [], length, take, slice_index_or, All, vec_capacity}
use Rattle.std.specs.declared.vec.Vec.{Vec}
use Rattle.std.specs.declared.thread.PromisedHandle.{PromisedHandle}
use Rattle.page_model.specs.declared.hashing.HashFunction.{Ghosts}
use Rattle.share_rings.specs.declared.merger_end.MergerEnd.{MergerEnd}
use Rattle.share_rings.specs.Closing.{has_closed}
use Rattle.share_rings.specs.Ends.{end_given}
use Rattle.merge_machine.specs.Same.{SameMachine}
use Rattle.merge_run.specs.Tasks.{IsReady, AreDone}
use Rattle.merge_machine.specs.View.{ends_of, guest_count}
use Rattle.merge_run.specs.declared.task.Task.{Task}
use Rattle.merge_run.specs.declared.task.DoneTask.{DoneTask}
use Rattle.merge_run.specs.declared.task.DoesTask.{DoesTask}
use Rattle.merge_machine.specs.declared.merger.Merger.{Merger}

-- each of the first n guests was given its `Closed`
abbrev pub HaveEnded : {A : Type 0} → ℕ → List (MergerEnd A) → Type 0
HaveEnded n ends = (i : ℕ) (e : MergerEnd _) → i < n → has_closed (end_given (slice_index_or ends i e)) ≡ true

module _ {H A : Type 0} {ghosts : Ghosts H} where
  -- the tasks can be run alongside this merger: no guest has begun, and the two lists are empty, with room for all
  pub record CanRun (tasks : List (Task A)) (merger : Merger H A ghosts) (handles : Vec (PromisedHandle (DoneTask A) (DoesTask A)) A)
      (done : Vec (DoneTask A) A) : Type 0 where
    pub ready : All IsReady tasks
    pub few : length tasks ≤ guest_count merger
    pub no_handles : handles.items ≡ []
    pub handles_room : length tasks ≤ vec_capacity handles
    pub none_done : done.items ≡ []
    pub done_room : length tasks ≤ vec_capacity done

  -- a merger of the same machine and rings, after the first of these tasks were done and their guests have ended
  pub record HasRun (tasks : List (Task A)) (merger merger' : Merger H A ghosts) (done : List (DoneTask A)) : Type 0 where
    pub same : SameMachine merger merger'
    pub most : length done ≤ length tasks
    pub tasks_done : AreDone (take (length done) tasks) done
    pub ended : HaveEnded (length done) (ends_of merger')
