-- What was found comes first.
use Rattle.std.proofs.Common.{◌≡◌, ℕ, Bool, true, false, cond, ◌&&◌, ◌||◌, refl, arith}
use Rattle.std.specs.Prelude.{nat_le, nat_lt, Option, Some, None}
use Rattle.std.proofs.lemmas.Bool.{ltb-false}
use Rattle.look_tasks.specs.Steps.{step_of}
use Rattle.look_tasks.specs.declared.step.Step.{Step}
use Rattle.look_tasks.proofs.Firsts.{are_first, batches_are_first, firsts_are, is_first, no_batch}
use Rattle.look_tasks.specs.Laws.{FoundComesFirst, NoneIsLeft, leaves}
use Rattle.look_tasks.specs.Tasks.{Tasks, batch_task, first_task, flushes, is_due, later_task, or_task, stage_task, task_in}
use Rattle.look_tasks.specs.declared.task.Sharing.{Sharing}
use Rattle.look_tasks.specs.declared.task.Sharing.TheVariants.{Gathers, Copies, Lends, Holds}
use Rattle.look_tasks.specs.declared.task.Stage.{Stage}
use Rattle.look_tasks.specs.declared.task.Stage.TheVariants.{Rests, Begins, Windows, Parts, Returns, Ends}
use Rattle.look_tasks.specs.declared.task.Task.{Task}
use Rattle.look_tasks.specs.declared.task.Task.TheVariants.{Over, Sleep, Begin, Attend, Release, Window, Look, Return, GiveBack, Ask, Copy, Lend, Hold, End}
use Rattle.look_tasks.specs.declared.task.TheConstants.{BATCH}

first_stays : (k : Task) → is_first k ≡ true → leaves k ≡ true → ⊥
first_stays Over f l = cc
first_stays (Sleep ns) f l = cc
first_stays Begin f l = cc
first_stays Attend f l = cc
first_stays Release f l = cc
first_stays Window f l = cc
first_stays (Look part) f l = cc
first_stays (Return part) f l = cc
first_stays GiveBack f l = cc
first_stays Ask f l = cc
first_stays Copy f l = cc
first_stays Lend f l = cc
first_stays Hold f l = cc
first_stays End f l = cc

none_due : (n : ℕ) → is_due true n ≡ false → n ≡ 0
none_due n e = pick (nat_lt 0 n) refl e where
  pick : (b : Bool) → nat_lt 0 n ≡ b → (b && (true || nat_le BATCH n)) ≡ false → n ≡ 0
  pick true f g = cc
  pick false f g = omega (arith, ltb-false 0 n f)

none_left : (t : Tasks) (s : Sharing) → t.sharing ≡ s → batch_task true t s ≡ None → NoneIsLeft t
none_left t Copies i e = absurd cc
none_left t Lends i e = absurd cc
none_left t Holds i e = absurd cc
none_left t Gathers i e = pick (is_due true t.zeros) (is_due true t.idle) refl refl e where
  pick : (z d : Bool) → is_due true t.zeros ≡ z → is_due true t.idle ≡ d → cond z (Some GiveBack) (cond d (Some Ask) None) ≡ None → NoneIsLeft t
  pick true d f g h = absurd cc
  pick false true f g h = absurd cc
  pick false false f g h = record { zeros = none_due t.zeros f; idle = none_due t.idle g; gathers = i }

-- a step of a window, where another one than this comes only once nothing is left
left_by : (t : Tasks) (o : Option Task) (k : Task) → batch_task true t t.sharing ≡ o → are_first o ≡ true → leaves (or_task o k) ≡ true → NoneIsLeft t
left_by t None k e f l = none_left t t.sharing refl e
left_by t (Some first) k e f l = absurd (first_stays first f l)

step_left : (t : Tasks) (k : Step) → leaves (task_in t k) ≡ true → NoneIsLeft t
step_left t (Step.Look part) l = absurd cc
step_left t (Step.Return part) l = left_by t (batch_task true t t.sharing) (Return part) refl (batches_are_first true t t.sharing) l
step_left t Step.Over l = left_by t (batch_task true t t.sharing) Window refl (batches_are_first true t t.sharing) l

stage_left : (t : Tasks) (now : ℕ) (s : Stage) → batch_task (flushes s) t t.sharing ≡ None → leaves (stage_task t now s) ≡ true → NoneIsLeft t
stage_left t now Rests e l = absurd cc
stage_left t now Begins e l = absurd cc
stage_left t now Windows e l = none_left t t.sharing refl e
stage_left t now Parts e l = step_left t (step_of t.steps now) l
stage_left t now Returns e l = none_left t t.sharing refl e
stage_left t now Ends e l = none_left t t.sharing refl e

pub found_comes_first : FoundComesFirst
found_comes_first t now wait l = pick (first_task t now wait) refl (firsts_are t now wait) l where
  later : (b : Bool) → batch_task (flushes t.stage) t t.sharing ≡ None → leaves (cond b Release (stage_task t now t.stage)) ≡ true → NoneIsLeft t
  later true e m = absurd cc
  later false e m = stage_left t now t.stage e m

  pick : (o : Option Task) → first_task t now wait ≡ o → are_first o ≡ true → leaves (or_task o (later_task t now)) ≡ true → NoneIsLeft t
  pick None e f m = later t.releases (no_batch t now wait e) m
  pick (Some first) e f m = absurd (first_stays first f m)
