-- How a look ends.
use Rattle.std.proofs.Common.{◌≡◌, ◌∙◌, ℕ, Bool, true, false, cond, refl, ap, sym}
use Rattle.std.specs.Prelude.{Option, Some, None}
use Rattle.look_tasks.proofs.Firsts.{are_first, asked_stands, firsts_are, is_first}
use Rattle.look_tasks.specs.Laws.{ReleasesComeFirst, StandsUntilItsEnd, is_end, its_task}
use Rattle.look_tasks.specs.Tasks.{Tasks, asked_then, attended, begun_then, came_to, first_task, in_window, ending, later_task, looked_at, or_task, rests, stage_task}
use Rattle.look_tasks.specs.declared.task.TaskOutcome.{TaskOutcome}
use Rattle.look_tasks.specs.declared.task.Stage.TheVariants.{Windows, Parts}
use Rattle.look_tasks.specs.declared.task.Task.{Task}
use Rattle.look_tasks.specs.declared.task.Task.TheVariants.{Over, Sleep, Begin, Attend, Release, Window, Look, Return, GiveBack, Ask, Copy, Lend, Hold, End}

-- ---- a look stands ----

looked_stands : (t : Tasks) (part : ℕ) (o : TaskOutcome) (e : ℕ) → rests (looked_at t part o e).stage ≡ false
looked_stands t part o e = pick o.goes_on where
  pick : (b : Bool) → rests (cond b Parts Windows) ≡ false
  pick true = refl
  pick false = refl

came_stands : (t : Tasks) (k : Task) (o : TaskOutcome) (e : ℕ) → rests t.stage ≡ false → is_end k ≡ false → rests (came_to t k o e).stage ≡ false
came_stands t Over o e h n = h
came_stands t (Sleep ns) o e h n = h
came_stands t Begin o e h n = pick o.goes_on where
  pick : (b : Bool) → rests (begun_then t b).stage ≡ false
  pick true = refl
  pick false = refl
came_stands t Attend o e h n = pick o.goes_on where
  pick : (b : Bool) → rests (attended t b e).stage ≡ false
  pick true = h
  pick false = refl
came_stands t Release o e h n = h
came_stands t Window o e h n = pick o.goes_on where
  pick : (b : Bool) → rests (cond b (in_window t o.parts) (ending t)).stage ≡ false
  pick true = refl
  pick false = refl
came_stands t (Look part) o e h n = looked_stands t part o e
came_stands t (Return part) o e h n = looked_stands t part o e
came_stands t GiveBack o e h n = h
came_stands t Ask o e h n = h
came_stands t Copy o e h n = h
came_stands t Lend o e h n = h
came_stands t Hold o e h n = h
came_stands t End o e h n = absurd cc

pub stands_until_its_end : StandsUntilItsEnd
stands_until_its_end t x h n =
    let asked : Tasks = asked_then t x.now x.wait in
    let stands : rests asked.stage ≡ false = asked_stands t x.now x.wait h in
    let came : rests (came_to asked (its_task t x) x.outcome x.ended).stage ≡ false = came_stands asked (its_task t x) x.outcome x.ended stands n in
    ap (λ b. rests (cond b asked (came_to asked (its_task t x) x.outcome x.ended)).stage) stands ∙ came

-- ---- slots are released first ----

no_first : (k : Task) → is_first k ≡ true → k ≡ End → ⊥
no_first k f e = let g : true ≡ false = sym f ∙ ap is_first e in cc

pub releases_come_first : ReleasesComeFirst
releases_come_first t now wait e = pick (first_task t now wait) (firsts_are t now wait) e where
  later : (b : Bool) → t.releases ≡ b → cond b Release (stage_task t now t.stage) ≡ End → t.releases ≡ false
  later true i f = absurd cc
  later false i f = i

  pick : (o : Option Task) → are_first o ≡ true → or_task o (later_task t now) ≡ End → t.releases ≡ false
  pick None f g = later t.releases refl g
  pick (Some first) f g = absurd (no_first first f g)
