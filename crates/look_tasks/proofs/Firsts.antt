-- The tasks that come before the look goes on.
use Rattle.std.proofs.Common.{◌≡◌, ℕ, Bool, true, false, cond, refl}
use Rattle.std.specs.Prelude.{min, nat_le, nat_lt, Option, Some, None}
use Rattle.look_tasks.specs.Steps.{step_of}
use Rattle.look_tasks.specs.declared.step.Step.{Step}
use Rattle.look_tasks.specs.Tasks.{Tasks, asked_then, batch_task, first_task, flushes, is_due, rests, stage_then, stepped_in, tasks_by}
use Rattle.look_tasks.specs.declared.task.Sharing.{Sharing}
use Rattle.look_tasks.specs.declared.task.Sharing.TheVariants.{Gathers, Copies, Lends, Holds}
use Rattle.look_tasks.specs.declared.task.Stage.{Stage}
use Rattle.look_tasks.specs.declared.task.Stage.TheVariants.{Rests, Begins, Windows, Parts, Returns, Ends}
use Rattle.look_tasks.specs.declared.task.Task.{Task}
use Rattle.look_tasks.specs.declared.task.Task.TheVariants.{Over, Sleep, Begin, Attend, Release, Window, Look, Return, GiveBack, Ask, Copy, Lend, Hold, End}
use Rattle.look_tasks.specs.declared.task.TheConstants.{NAP_NS}

-- it comes before the look goes on
abbrev pub is_first : Task → Bool
is_first Over = true
is_first (Sleep ns) = true
is_first Begin = false
is_first Attend = true
is_first Release = false
is_first Window = false
is_first (Look part) = false
is_first (Return part) = false
is_first GiveBack = true
is_first Ask = true
is_first Copy = true
is_first Lend = true
is_first Hold = true
is_first End = false

abbrev pub are_first : Option Task → Bool
are_first None = true
are_first (Some task) = is_first task

pub batches_are_first : (all : Bool) (t : Tasks) (s : Sharing) → are_first (batch_task all t s) ≡ true
batches_are_first all t Copies = refl
batches_are_first all t Lends = refl
batches_are_first all t Holds = refl
batches_are_first all t Gathers = pick (is_due all t.zeros) (is_due all t.idle) where
  pick : (z i : Bool) → are_first (cond z (Some GiveBack) (cond i (Some Ask) None)) ≡ true
  pick true i = refl
  pick false true = refl
  pick false false = refl

pub firsts_are : (t : Tasks) (now wait : ℕ) → are_first (first_task t now wait) ≡ true
firsts_are t now wait = pick (rests t.stage) (nat_le t.attend_ns now) (nat_lt 0 wait) where
  pick : (r a w : Bool) →
      are_first (cond r (Some Over) (cond a (Some Attend) (cond w (Some (Sleep (min wait NAP_NS))) (batch_task (flushes t.stage) t t.sharing)))) ≡ true
  pick true a w = refl
  pick false true w = refl
  pick false false true = refl
  pick false false false = batches_are_first (flushes t.stage) t t.sharing

-- if nothing comes before it, no batch is dealt with
pub no_batch : (t : Tasks) (now wait : ℕ) → first_task t now wait ≡ None → batch_task (flushes t.stage) t t.sharing ≡ None
no_batch t now wait e = pick (rests t.stage) (nat_le t.attend_ns now) (nat_lt 0 wait) e where
  pick : (r a w : Bool) → cond r (Some Over) (cond a (Some Attend) (cond w (Some (Sleep (min wait NAP_NS))) (batch_task (flushes t.stage) t t.sharing))) ≡ None →
      batch_task (flushes t.stage) t t.sharing ≡ None
  pick true a w f = cc
  pick false true w f = cc
  pick false false true f = cc
  pick false false false f = f

-- a look that stands does so once it was asked what comes next
pub asked_stands : (t : Tasks) (now wait : ℕ) → rests t.stage ≡ false → rests (asked_then t now wait).stage ≡ false
asked_stands t now wait h = pick (first_task t now wait) where
  steps : (k : Step) → rests (stepped_in t now k).stage ≡ false
  steps (Step.Look part) = h
  steps (Step.Return part) = refl
  steps Step.Over = refl

  stages : (s : Stage) → rests (stage_then t now s).stage ≡ false
  stages Rests = h
  stages Begins = h
  stages Windows = h
  stages Parts = steps (step_of t.steps now)
  stages Returns = h
  stages Ends = h

  later : (b : Bool) → rests (cond b t (stage_then t now t.stage)).stage ≡ false
  later true = h
  later false = stages t.stage

  pick : (o : Option Task) → rests (tasks_by o t now).stage ≡ false
  pick None = later t.releases
  pick (Some first) = h
