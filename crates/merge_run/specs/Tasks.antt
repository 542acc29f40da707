-- What a guest's thread gets, and what it owes.
use Rattle.std.specs.Prelude.{◌≡◌, ℕ, ◌<◌, true, false, List, [], ◌∷◌, ◌++◌, length, map, All, vec_capacity}
use Rattle.std.specs.declared.vec.Vec.{Vec}
use Rattle.std.specs.declared.thread.PromisedHandle.{PromisedHandle}
use Rattle.page_model.specs.declared.request.Request.{Request}
use Rattle.page_model.specs.declared.verdict.Verdict.{Verdict}
use Rattle.share_rings.specs.Closing.{has_close, last_closed}
use Rattle.share_rings.specs.Ends.{PairName, port_name, port_sent, port_got, port_capacity, closed_name, closed_sent, closed_got, closed_capacity}
use Rattle.share_rings.specs.declared.port.Port.{Port}
use Rattle.share_rings.specs.declared.closed_port.ClosedPort.{ClosedPort}
use Rattle.merge_machine.specs.Kept.{closed_names}
use Rattle.merge_machine.specs.Scripts.{with_close}
use Rattle.merge_run.specs.declared.task.Task.{Task}
use Rattle.merge_run.specs.declared.task.DoneTask.{DoneTask}
use Rattle.merge_run.specs.declared.task.DoesTask.{DoesTask}
use Rattle.page_model.specs.declared.limits.TheConstants.{MAX_ENTRIES}

module _ {A : Type 0} where
  -- all that each guest sends
  abbrev pub all_sent : List (Vec Request A) → List (List Request)
  all_sent scripts = map (λ script. with_close script.items) scripts

  -- nothing was sent or received yet
  pub record IsUnused (port : Port A) : Type 0 where
    pub sent : port_sent port ≡ []
    pub got : port_got port ≡ []

  -- nothing was sent or received yet; the script has no close, and is short enough to be counted; the list of verdicts is
  -- empty, with room for a verdict on each request and on the close
  pub record IsReady (task : Task A) : Type 0 where
    pub unused : IsUnused task.port
    pub plain : has_close task.script.items ≡ false
    pub few : length task.script.items < MAX_ENTRIES
    pub empty : task.verdicts.items ≡ []
    pub room : length task.script.items < vec_capacity task.verdicts

  -- the port is the task's, it sent the script and a close last, and it received its `Closed`; the list of verdicts is what
  -- it received
  pub record IsDone (task : Task A) (done : DoneTask A) : Type 0 where
    pub ends : closed_name done.port ≡ port_name task.port
    pub capacity : closed_capacity done.port ≡ port_capacity task.port
    pub script : closed_sent done.port ≡ with_close task.script.items
    pub drained : last_closed (closed_got done.port) ≡ true
    pub verdicts : done.verdicts.items ≡ closed_got done.port

  -- the tasks that the threads were started with
  abbrev pub tasks_of : List (PromisedHandle (DoneTask A) (DoesTask A)) → List (Task A)
  tasks_of handles = map (λ h. h.promise.0.value) handles

  -- the ports that came back
  abbrev pub ports_of : List (DoneTask A) → List (ClosedPort A)
  ports_of done = map (λ d. d.port) done

  -- the lists of verdicts that came back
  abbrev pub lists_of : List (DoneTask A) → List (Vec Verdict A)
  lists_of done = map (λ d. d.verdicts) done

  -- which rings the tasks' ports belong to
  abbrev pub task_names : List (Task A) → List (PairName A)
  task_names tasks = map (λ t. port_name t.port) tasks

  -- the capacities of the rings of the tasks' ports
  abbrev pub task_capacities : List (Task A) → List ℕ
  task_capacities tasks = map (λ t. port_capacity t.port) tasks

  -- all that the tasks' guests send
  abbrev pub task_requests : List (Task A) → List (List Request)
  task_requests tasks = map (λ t. with_close t.script.items) tasks

  -- each of these tasks is done
  pub record AreDone (tasks : List (Task A)) (done : List (DoneTask A)) : Type 0 where
    pub ends : closed_names (ports_of done) ≡ task_names tasks
    pub capacities : map closed_capacity (ports_of done) ≡ task_capacities tasks
    pub scripts : map closed_sent (ports_of done) ≡ task_requests tasks
    pub drained : All (λ p. last_closed (closed_got p) ≡ true) (ports_of done)
    pub verdicts : map (λ v. v.items) (lists_of done) ≡ map closed_got (ports_of done)
