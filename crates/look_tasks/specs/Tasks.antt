-- What the thread that looks does next, and where the look is then.
use Rattle.std.specs.Prelude.{ℕ, ◌+◌, ◌-◌, ◌^◌, min, Bool, true, false, ◌&&◌, ◌||◌, nat_eq, nat_le, nat_lt, if◌then◌else◌, Option, Some, None}
use Rattle.look_tasks.specs.Steps.{Steps, begun, looked_then, step_of, stepped, steps_of}
use Rattle.look_tasks.specs.declared.step.Step.{Step}
use Rattle.look_tasks.specs.declared.task.LookTasks.{LookTasks}
use Rattle.look_tasks.specs.declared.task.TaskOutcome.{TaskOutcome}
use Rattle.look_tasks.specs.declared.task.Sharing.{Sharing}
use Rattle.look_tasks.specs.declared.task.Sharing.TheVariants.{Gathers, Copies, Lends, Holds}
use Rattle.look_tasks.specs.declared.task.Stage.{Stage}
use Rattle.look_tasks.specs.declared.task.Stage.TheVariants.{Rests, Begins, Windows, Parts, Returns, Ends}
use Rattle.look_tasks.specs.declared.task.Task.{Task}
use Rattle.look_tasks.specs.declared.task.Task.TheVariants.{Over, Sleep, Begin, Attend, Release, Window, Look, Return, GiveBack, Ask, Copy, Lend, Hold, End}
use Rattle.look_tasks.specs.declared.task.TheConstants.{BATCH, ATTEND_NS, NAP_NS}

-- Where a look is: in which stage, and where in its window; how many pages were found that are zeros or idle, and what is done next with the idle
-- ones; whether slots may be to be released; which part it comes back to; and when it is time to attend to what may not wait.
pub record Tasks : Type 0 where
  pub steps : Steps
  pub attend_ns : ℕ
  pub part : ℕ
  pub zeros : ℕ
  pub idle : ℕ
  pub stage : Stage
  pub sharing : Sharing
  pub releases : Bool

abbrev pub stage_of : ℕ → Stage
stage_of n =
    if nat_eq n 1 then Begins
    else (if nat_eq n 2 then Windows else (if nat_eq n 3 then Parts else (if nat_eq n 4 then Returns else (if nat_eq n 5 then Ends else Rests))))

abbrev pub sharing_of : ℕ → Sharing
sharing_of n = if nat_eq n 1 then Copies else (if nat_eq n 2 then Lends else (if nat_eq n 3 then Holds else Gathers))

abbrev pub tasks_of : LookTasks → Tasks
tasks_of t = record {
  steps = steps_of t.steps;
  attend_ns = t.attend_ns;
  part = t.part;
  zeros = t.zeros;
  idle = t.idle;
  stage = stage_of t.stage;
  sharing = sharing_of t.sharing;
  releases = t.releases;
}

-- no look stands
abbrev pub rests : Stage → Bool
rests Rests = true
rests Begins = false
rests Windows = false
rests Parts = false
rests Returns = false
rests Ends = false

-- all that was found is shared or given back before the look goes on
abbrev pub flushes : Stage → Bool
flushes Rests = false
flushes Begins = false
flushes Windows = true
flushes Parts = false
flushes Returns = true
flushes Ends = true

-- Whether a batch of so many pages is dealt with.
abbrev pub is_due : Bool → ℕ → Bool
is_due all pages = nat_lt 0 pages && (all || nat_le BATCH pages)

-- what is done next with the pages that were found; with all of them, or with as many as a batch has
abbrev pub batch_task : Bool → Tasks → Sharing → Option Task
batch_task all t Copies = Some Copy
batch_task all t Lends = Some Lend
batch_task all t Holds = Some Hold
batch_task all t Gathers = if is_due all t.zeros then Some GiveBack else (if is_due all t.idle then Some Ask else None)

-- what comes before the look goes on, if anything does; `wait`: for how long the thread has to sleep
abbrev pub first_task : Tasks → ℕ → ℕ → Option Task
first_task t now wait =
    if rests t.stage then Some Over
    else (if nat_le t.attend_ns now then Some Attend else (if nat_lt 0 wait then Some (Sleep (min wait NAP_NS)) else batch_task (flushes t.stage) t t.sharing))

-- the first of these tasks, or the other one
abbrev pub or_task : Option Task → Task → Task
or_task None other = other
or_task (Some first) other = first

-- the task of a step in a window; all that was found is dealt with before a part comes twice, and before the next window
abbrev pub task_in : Tasks → Step → Task
task_in t (Step.Look part) = Look part
task_in t (Step.Return part) = or_task (batch_task true t t.sharing) (Return part)
task_in t Step.Over = or_task (batch_task true t t.sharing) Window

-- the task with which the look goes on
abbrev pub stage_task : Tasks → ℕ → Stage → Task
stage_task t now Rests = Over
stage_task t now Begins = Begin
stage_task t now Windows = Window
stage_task t now Parts = task_in t (step_of t.steps now)
stage_task t now Returns = Return t.part
stage_task t now Ends = End

-- slots are released before it goes on
abbrev pub later_task : Tasks → ℕ → Task
later_task t now = if t.releases then Release else stage_task t now t.stage

abbrev pub task_of : Tasks → ℕ → ℕ → Task
task_of t now wait = or_task (first_task t now wait) (later_task t now)

-- where the look is after a step in a window
abbrev pub stepped_in : Tasks → ℕ → Step → Tasks
stepped_in t now (Step.Look part) = record t { steps = stepped t.steps now }
stepped_in t now (Step.Return part) = record t { steps = stepped t.steps now; part = part; stage = Returns }
stepped_in t now Step.Over = record t { steps = stepped t.steps now; stage = Windows }

abbrev pub stage_then : Tasks → ℕ → Stage → Tasks
stage_then t now Rests = t
stage_then t now Begins = t
stage_then t now Windows = t
stage_then t now Parts = stepped_in t now (step_of t.steps now)
stage_then t now Returns = t
stage_then t now Ends = t

abbrev pub later_then : Tasks → ℕ → Tasks
later_then t now = if t.releases then t else stage_then t now t.stage

-- where it is once the task was asked for
abbrev pub tasks_by : Option Task → Tasks → ℕ → Tasks
tasks_by None t now = later_then t now
tasks_by (Some first) t now = t

abbrev pub asked_then : Tasks → ℕ → ℕ → Tasks
asked_then t now wait = tasks_by (first_task t now wait) t now

-- a look begins
abbrev pub look_begun : Tasks
look_begun = record {
  steps = begun 0;
  attend_ns = 0;
  part = 0;
  zeros = 0;
  idle = 0;
  stage = Begins;
  sharing = Gathers;
  releases = false;
}

-- these pages were found, and this is done next with the idle ones
abbrev pub with_found : Tasks → TaskOutcome → Sharing → Tasks
with_found t o sharing = record t { zeros = o.zeros; idle = o.idle; sharing = sharing }

-- if pages are left this is done next with them, and else more are gathered
abbrev pub shared_then : Tasks → TaskOutcome → Sharing → Tasks
shared_then t o sharing = with_found t o (if o.goes_on then sharing else Gathers)

-- a part was looked at
abbrev pub looked_at : Tasks → ℕ → TaskOutcome → ℕ → Tasks
looked_at t part o now = record t {
  steps = looked_then t.steps part now o.rests o.young;
  zeros = o.zeros;
  idle = o.idle;
  stage = if o.goes_on then Parts else Windows;
}

-- the look comes to a window of so many parts
abbrev pub in_window : Tasks → ℕ → Tasks
in_window t parts = record t { steps = begun parts; stage = Parts }

-- it ends, once slots were released
abbrev pub ending : Tasks → Tasks
ending t = record t { stage = Ends; releases = true }

-- the look comes to a window, or there is none left
abbrev pub entered : Tasks → TaskOutcome → Tasks
entered t o = if o.goes_on then in_window t o.parts else ending t

-- windows come, or nothing can be looked at
abbrev pub begun_then : Tasks → Bool → Tasks
begun_then t goes_on = record t { stage = if goes_on then Windows else Ends }

-- when it is time to attend again
abbrev pub attend_after : ℕ → ℕ
attend_after now = min (now + ATTEND_NS) (2 ^ 64 - 1)

-- it was attended to what may not wait
abbrev pub attended : Tasks → Bool → ℕ → Tasks
attended t goes_on now = record t { attend_ns = attend_after now; stage = if goes_on then t.stage else Ends; releases = true }

-- where it is once a task has come to this
abbrev pub came_to : Tasks → Task → TaskOutcome → ℕ → Tasks
came_to t Over o now = t
came_to t (Sleep ns) o now = t
came_to t Begin o now = begun_then t o.goes_on
came_to t Attend o now = attended t o.goes_on now
came_to t Release o now = record t { releases = o.goes_on }
came_to t Window o now = entered t o
came_to t (Look part) o now = looked_at t part o now
came_to t (Return part) o now = looked_at t part o now
came_to t GiveBack o now = with_found t o t.sharing
came_to t Ask o now = shared_then t o Copies
came_to t Copy o now = shared_then t o Lends
came_to t Lend o now = shared_then t o Holds
came_to t Hold o now = shared_then t o Holds
came_to t End o now = record t { stage = Rests }

-- nothing comes of a task while no look stands
abbrev pub done_then : Tasks → Task → TaskOutcome → ℕ → Tasks
done_then t what o now = if rests t.stage then t else came_to t what o now
