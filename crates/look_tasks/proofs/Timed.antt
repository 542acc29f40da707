-- What may not wait for a look's end.
use Rattle.std.proofs.Common.{◌≡◌, ◌∙◌, ℕ, ◌<◌, Bool, true, false, cond, refl, ap, sym, arith}
use Rattle.std.specs.Prelude.{min, nat_le, nat_lt, Option, Some, None}
use Rattle.std.proofs.lemmas.Bool.{leb-false, ltb-false}
use Rattle.look_tasks.specs.Steps.{step_of}
use Rattle.look_tasks.specs.declared.step.Step.{Step}
use Rattle.look_tasks.proofs.Firsts.{asked_stands}
use Rattle.look_tasks.specs.Laws.{AttendsAgain, AttendsInTime, is_attend, its_task, may_wait, works}
use Rattle.look_tasks.specs.Tasks.{Tasks, asked_then, attend_after, batch_task, came_to, done_then, first_task, flushes, in_window, ending, later_task, or_task, rests, stage_then, stepped_in, task_of, tasks_by}
use Rattle.look_tasks.specs.declared.task.TaskOutcome.{TaskOutcome}
use Rattle.look_tasks.specs.declared.task.Stage.{Stage}
use Rattle.look_tasks.specs.declared.task.Stage.TheVariants.{Rests, Begins, Windows, Parts, Returns, Ends}
use Rattle.look_tasks.specs.declared.task.Task.{Task}
use Rattle.look_tasks.specs.declared.task.Task.TheVariants.{Over, Sleep, Begin, Attend, Release, Window, Look, Return, GiveBack, Ask, Copy, Lend, Hold, End}
use Rattle.look_tasks.specs.declared.task.TheConstants.{NAP_NS}

-- what is known once a task comes with which the thread doesn't attend to what may not wait
record Early (t : Tasks) (now wait : ℕ) : Type 0 where
  early : now < t.attend_ns
  awake : works (task_of t now wait) ≡ true → wait ≡ 0

early_then : (t : Tasks) (now wait : ℕ) → may_wait (task_of t now wait) ≡ true → Early t now wait
early_then t now wait h = pick (rests t.stage) (nat_le t.attend_ns now) (nat_lt 0 wait) refl refl refl h where
  same : rests t.stage ≡ false → nat_le t.attend_ns now ≡ false → nat_lt 0 wait ≡ true → task_of t now wait ≡ Sleep (min wait NAP_NS)
  same i j k =
      ap (λ r. or_task (cond r (Some Over) (cond (nat_le t.attend_ns now) (Some Attend) (cond (nat_lt 0 wait) (Some (Sleep (min wait NAP_NS))) (batch_task (flushes t.stage) t t.sharing)))) (later_task t now)) i
      ∙ ap (λ a. or_task (cond a (Some Attend) (cond (nat_lt 0 wait) (Some (Sleep (min wait NAP_NS))) (batch_task (flushes t.stage) t t.sharing))) (later_task t now)) j
      ∙ ap (λ w. or_task (cond w (Some (Sleep (min wait NAP_NS))) (batch_task (flushes t.stage) t t.sharing)) (later_task t now)) k

  pick : (r a w : Bool) → rests t.stage ≡ r → nat_le t.attend_ns now ≡ a → nat_lt 0 wait ≡ w →
      may_wait (or_task (cond r (Some Over) (cond a (Some Attend) (cond w (Some (Sleep (min wait NAP_NS))) (batch_task (flushes t.stage) t t.sharing)))) (later_task t now)) ≡ true →
      Early t now wait
  pick true a w i j k g = absurd cc
  pick false true w i j k g = absurd cc
  pick false false true i j k g =
      let is : task_of t now wait ≡ Sleep (min wait NAP_NS) = same i j k in
      record { early = leb-false t.attend_ns now j; awake = λ f. let g : works (Sleep (min wait NAP_NS)) ≡ true = sym (ap works is) ∙ f in absurd cc }
  pick false false false i j k g = record { early = leb-false t.attend_ns now j; awake = λ f. omega (arith, ltb-false 0 wait k) }

pub attends_in_time : AttendsInTime
attends_in_time t now wait h = (early_then t now wait h).early

works_later : (k : Task) → works k ≡ true → may_wait k ≡ true
works_later Over f = absurd cc
works_later (Sleep ns) f = refl
works_later Begin f = refl
works_later Attend f = absurd cc
works_later Release f = refl
works_later Window f = refl
works_later (Look part) f = refl
works_later (Return part) f = refl
works_later GiveBack f = refl
works_later Ask f = refl
works_later Copy f = refl
works_later Lend f = refl
works_later Hold f = refl
works_later End f = refl

-- a thread that works needn't sleep
pub awake_then : (t : Tasks) (now wait : ℕ) → works (task_of t now wait) ≡ true → wait ≡ 0
awake_then t now wait h = (early_then t now wait (works_later (task_of t now wait) h)).awake h

-- ---- when it is time again ----

step_keeps : (t : Tasks) (now : ℕ) (k : Step) → (stepped_in t now k).attend_ns ≡ t.attend_ns
step_keeps t now (Step.Look part) = refl
step_keeps t now (Step.Return part) = refl
step_keeps t now Step.Over = refl

stage_keeps : (t : Tasks) (now : ℕ) (s : Stage) → (stage_then t now s).attend_ns ≡ t.attend_ns
stage_keeps t now Rests = refl
stage_keeps t now Begins = refl
stage_keeps t now Windows = refl
stage_keeps t now Parts = step_keeps t now (step_of t.steps now)
stage_keeps t now Returns = refl
stage_keeps t now Ends = refl

asked_keeps : (t : Tasks) (now wait : ℕ) → (asked_then t now wait).attend_ns ≡ t.attend_ns
asked_keeps t now wait = pick (first_task t now wait) where
  later : (b : Bool) → (cond b t (stage_then t now t.stage)).attend_ns ≡ t.attend_ns
  later true = refl
  later false = stage_keeps t now t.stage

  pick : (o : Option Task) → (tasks_by o t now).attend_ns ≡ t.attend_ns
  pick None = later t.releases
  pick (Some first) = refl

came_keeps : (t : Tasks) (k : Task) (o : TaskOutcome) (e : ℕ) → (came_to t k o e).attend_ns ≡ cond (is_attend k) (attend_after e) t.attend_ns
came_keeps t Over o e = refl
came_keeps t (Sleep ns) o e = refl
came_keeps t Begin o e = refl
came_keeps t Attend o e = refl
came_keeps t Release o e = refl
came_keeps t Window o e = pick o.goes_on where
  pick : (b : Bool) → (cond b (in_window t o.parts) (ending t)).attend_ns ≡ t.attend_ns
  pick true = refl
  pick false = refl
came_keeps t (Look part) o e = refl
came_keeps t (Return part) o e = refl
came_keeps t GiveBack o e = refl
came_keeps t Ask o e = refl
came_keeps t Copy o e = refl
came_keeps t Lend o e = refl
came_keeps t Hold o e = refl
came_keeps t End o e = refl

-- while no look stands nothing is attended to
none_attends : (t : Tasks) (now wait : ℕ) → rests t.stage ≡ true → task_of t now wait ≡ Over
none_attends t now wait h = ap (λ r. or_task (cond r (Some Over) (cond (nat_le t.attend_ns now) (Some Attend) (cond (nat_lt 0 wait) (Some (Sleep (min wait NAP_NS))) (batch_task (flushes t.stage) t t.sharing)))) (later_task t now)) h

-- the task of a look that stands comes to this, whatever was asked
done_keeps : (u : Tasks) (k : Task) (o : TaskOutcome) (e : ℕ) → (rests u.stage ≡ true → is_attend k ≡ false) →
    (done_then u k o e).attend_ns ≡ cond (is_attend k) (attend_after e) u.attend_ns
done_keeps u k o e h = pick (rests u.stage) refl where
  pick : (b : Bool) → rests u.stage ≡ b → (cond b u (came_to u k o e)).attend_ns ≡ cond (is_attend k) (attend_after e) u.attend_ns
  pick true i = sym (ap (λ c. cond c (attend_after e) u.attend_ns) (h i))
  pick false i = came_keeps u k o e

-- if no look stands once it was asked, the task is none of what may not wait
rests_apart : (t : Tasks) (now wait : ℕ) → rests (asked_then t now wait).stage ≡ true → is_attend (task_of t now wait) ≡ false
rests_apart t now wait h = pick (rests t.stage) refl where
  pick : (b : Bool) → rests t.stage ≡ b → is_attend (task_of t now wait) ≡ false
  pick true i = ap is_attend (none_attends t now wait i)
  pick false i =
      let stands : rests (asked_then t now wait).stage ≡ false = asked_stands t now wait i in
      absurd cc

pub attends_again : AttendsAgain
attends_again t x =
    let asked : Tasks = asked_then t x.now x.wait in
    done_keeps asked (its_task t x) x.outcome x.ended (rests_apart t x.now x.wait)
    ∙ ap (λ n. cond (is_attend (its_task t x)) (attend_after x.ended) n) (asked_keeps t x.now x.wait)
