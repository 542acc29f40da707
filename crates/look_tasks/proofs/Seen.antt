-- Which parts come.
use Rattle.std.proofs.Common.{◌≡◌, ◌∙◌, ℕ, zero, suc, ◌+◌, ◌<◌, ◌≤◌, Bool, true, false, cond, List, [], ◌∷◌, ◌++◌, refl, ap, sym, subst, arith}
use Rattle.std.specs.Prelude.{nat_lt, Option, Some, None}
use Rattle.std.proofs.lemmas.Bool.{ltb-true, ltb-false}
use Rattle.look_tasks.specs.StepLaws.{numbers_from}
use Rattle.look_tasks.specs.Steps.{Steps, due_part, next_by, step_by, step_of, stepped}
use Rattle.look_tasks.specs.declared.step.Step.{Step}
use Rattle.look_tasks.proofs.Firsts.{are_first, batches_are_first, firsts_are, is_first}
use Rattle.look_tasks.specs.Laws.{AllPartsCome, EachPartComesOnce, Turn, after_turn, its_task, run, seen, seen_then}
use Rattle.look_tasks.specs.Tasks.{Tasks, asked_then, batch_task, came_to, done_then, entered, first_task, later_task, look_begun, or_task, rests, stage_task, stage_then, stepped_in, task_in, tasks_by}
use Rattle.look_tasks.specs.declared.task.TaskOutcome.{TaskOutcome}
use Rattle.look_tasks.specs.declared.task.Stage.{Stage}
use Rattle.look_tasks.specs.declared.task.Stage.TheVariants.{Rests, Begins, Windows, Parts, Returns, Ends}
use Rattle.look_tasks.specs.declared.task.Task.{Task}
use Rattle.look_tasks.specs.declared.task.Task.TheVariants.{Over, Sleep, Begin, Attend, Release, Window, Look, Return, GiveBack, Ask, Copy, Lend, Hold, End}

-- ---- the steps of a window ----

numbers_more : (n first : ℕ) → numbers_from first (n + 1) ≡ numbers_from first n ++ (first + n) ∷ []
numbers_more zero first =
    let is : first + 0 ≡ first = omega arith in
    ap (λ k. k ∷ []) (sym is)
numbers_more (suc n) first =
    let one : suc n + 1 ≡ suc (n + 1) = omega arith in
    let behind : first + 1 + n ≡ first + suc n = omega arith in
    ap (λ k. numbers_from first k) one ∙ ap (λ xs. first ∷ xs) (numbers_more n (first + 1)) ∙ ap (λ k. first ∷ (numbers_from (first + 1) n ++ k ∷ [])) behind

one_more : (n : ℕ) → numbers_from 0 (n + 1) ≡ numbers_from 0 n ++ n ∷ []
one_more n =
    let is : 0 + n ≡ n = omega arith in
    numbers_more n 0 ∙ ap (λ k. numbers_from 0 n ++ k ∷ []) is

-- the next part comes
record Comes (s : Steps) (now part : ℕ) : Type 0 where
  is : part ≡ s.next_part
  next : (stepped s now).next_part ≡ s.next_part + 1
  below : s.next_part < s.parts

look_comes : (s : Steps) (now part : ℕ) → step_of s now ≡ Step.Look part → Comes s now part
look_comes s now part e = pick (due_part s.returns now) refl e where
  or : (b : Bool) → nat_lt s.next_part s.parts ≡ b → due_part s.returns now ≡ None → cond b (Step.Look s.next_part) Step.Over ≡ Step.Look part → Comes s now part
  or true f d g = record {
    is = cc;
    next = ap (λ o. next_by o s) d ∙ ap (λ b. cond b (s.next_part + 1) s.next_part) f;
    below = ltb-true s.next_part s.parts f;
  }
  or false f d g = absurd cc

  pick : (o : Option ℕ) → due_part s.returns now ≡ o → step_by o s ≡ Step.Look part → Comes s now part
  pick (Some p) d f = absurd cc
  pick None d f = or (nat_lt s.next_part s.parts) refl d f

return_stays : (s : Steps) (now part : ℕ) → step_of s now ≡ Step.Return part → (stepped s now).next_part ≡ s.next_part
return_stays s now part e = pick (due_part s.returns now) refl e where
  or : (b : Bool) → cond b (Step.Look s.next_part) Step.Over ≡ Step.Return part → (stepped s now).next_part ≡ s.next_part
  or true g = absurd cc
  or false g = absurd cc

  pick : (o : Option ℕ) → due_part s.returns now ≡ o → step_by o s ≡ Step.Return part → (stepped s now).next_part ≡ s.next_part
  pick (Some p) d f = ap (λ o. next_by o s) d
  pick None d f = or (nat_lt s.next_part s.parts) f

-- all parts have come
record IsOver (s : Steps) (now : ℕ) : Type 0 where
  stays : (stepped s now).next_part ≡ s.next_part
  all : s.parts ≤ s.next_part

over_is : (s : Steps) (now : ℕ) → step_of s now ≡ Step.Over → IsOver s now
over_is s now e = pick (due_part s.returns now) refl e where
  or : (b : Bool) → nat_lt s.next_part s.parts ≡ b → due_part s.returns now ≡ None → cond b (Step.Look s.next_part) Step.Over ≡ Step.Over → IsOver s now
  or true f d g = absurd cc
  or false f d g = record {
    stays = ap (λ o. next_by o s) d ∙ ap (λ b. cond b (s.next_part + 1) s.next_part) f;
    all = ltb-false s.next_part s.parts f;
  }

  pick : (o : Option ℕ) → due_part s.returns now ≡ o → step_by o s ≡ Step.Over → IsOver s now
  pick (Some p) d f = absurd cc
  pick None d f = or (nat_lt s.next_part s.parts) refl d f

-- ---- the parts that were looked at ----

-- These parts were looked at: all before the next one.
record Went (parts : List ℕ) (s : Steps) : Type 0 where
  seen : parts ≡ numbers_from 0 s.next_part
  within : s.next_part ≤ s.parts

same_went : (ps : List ℕ) (s s2 : Steps) → Went ps s → s2.next_part ≡ s.next_part → s2.parts ≡ s.parts → Went ps s2
same_went ps s s2 w n p = record { seen = w.seen ∙ ap (λ k. numbers_from 0 k) (sym n); within = omega (arith, w.within, n, p) }

-- while no look stands nothing comes of a task
if_stands : (ps : List ℕ) (b : Bool) (t u : Tasks) → Went ps t.steps → Went ps u.steps → Went ps (cond b t u).steps
if_stands ps true t u v w = v
if_stands ps false t u v w = w

first_went : (ps : List ℕ) (t : Tasks) (k : Task) (o : TaskOutcome) (e : ℕ) → is_first k ≡ true → Went ps t.steps → Went (seen_then ps k o) (done_then t k o e).steps
first_went ps t Over o e f w = if_stands ps (rests t.stage) t t w w
first_went ps t (Sleep ns) o e f w = if_stands ps (rests t.stage) t t w w
first_went ps t Begin o e f w = absurd cc
first_went ps t Attend o e f w = if_stands ps (rests t.stage) t (came_to t Attend o e) w w
first_went ps t Release o e f w = absurd cc
first_went ps t Window o e f w = absurd cc
first_went ps t (Look part) o e f w = absurd cc
first_went ps t (Return part) o e f w = absurd cc
first_went ps t GiveBack o e f w = if_stands ps (rests t.stage) t (came_to t GiveBack o e) w w
first_went ps t Ask o e f w = if_stands ps (rests t.stage) t (came_to t Ask o e) w w
first_went ps t Copy o e f w = if_stands ps (rests t.stage) t (came_to t Copy o e) w w
first_went ps t Lend o e f w = if_stands ps (rests t.stage) t (came_to t Lend o e) w w
first_went ps t Hold o e f w = if_stands ps (rests t.stage) t (came_to t Hold o e) w w
first_went ps t End o e f w = absurd cc

window_went : (ps : List ℕ) (t : Tasks) (o : TaskOutcome) → Went ps t.steps → Went (cond o.goes_on [] ps) (entered t o).steps
window_went ps t o w = pick o.goes_on where
  pick : (b : Bool) → Went (cond b [] ps) (cond b (record t { steps = record { parts = o.parts; next_part = 0; returns = [] }; stage = Parts }) (record t { stage = Ends; releases = true })).steps
  pick true = record { seen = refl; within = omega arith }
  pick false = w

-- what comes of a task, or of the one that comes before it
or_went : (ps : List ℕ) (t : Tasks) (k : Task) (o : TaskOutcome) (e : ℕ) (first : Option Task) → are_first first ≡ true → Went ps t.steps →
    Went (seen_then ps k o) (done_then t k o e).steps → Went (seen_then ps (or_task first k) o) (done_then t (or_task first k) o e).steps
or_went ps t k o e None f w v = v
or_went ps t k o e (Some first) f w v = first_went ps t first o e f w

step_went : (ps : List ℕ) (t : Tasks) (now : ℕ) (o : TaskOutcome) (e : ℕ) (k : Step) → step_of t.steps now ≡ k → Went ps t.steps →
    Went (seen_then ps (task_in t k) o) (done_then (stepped_in t now k) (task_in t k) o e).steps
step_went ps t now o e (Step.Look part) i w =
    let c : Comes t.steps now part = look_comes t.steps now part i in
    let all : ps ++ part ∷ [] ≡ numbers_from 0 (stepped t.steps now).next_part =
    ap (λ xs. xs ++ part ∷ []) w.seen ∙ ap (λ k. numbers_from 0 t.steps.next_part ++ k ∷ []) c.is ∙ sym (one_more t.steps.next_part)
    ∙ ap (λ k. numbers_from 0 k) (sym c.next) in
    let went : Went (ps ++ part ∷ []) (stepped t.steps now) = record { seen = all; within = omega (arith, c.next, c.below) } in
    let u : Tasks = stepped_in t now (Step.Look part) in
    if_stands (ps ++ part ∷ []) (rests t.stage) u (came_to u (Look part) o e) went (record { seen = went.seen; within = went.within })
step_went ps t now o e (Step.Return part) i w =
    let u : Tasks = stepped_in t now (Step.Return part) in
    let went : Went ps u.steps = same_went ps t.steps (stepped t.steps now) w (return_stays t.steps now part i) refl in
    or_went ps u (Return part) o e (batch_task true t t.sharing) (batches_are_first true t t.sharing) went (record { seen = went.seen; within = went.within })
step_went ps t now o e Step.Over i w =
    let u : Tasks = stepped_in t now Step.Over in
    let went : Went ps u.steps = same_went ps t.steps (stepped t.steps now) w (over_is t.steps now i).stays refl in
    or_went ps u Window o e (batch_task true t t.sharing) (batches_are_first true t t.sharing) went (window_went ps u o went)

stage_went : (ps : List ℕ) (t : Tasks) (now : ℕ) (o : TaskOutcome) (e : ℕ) (s : Stage) → t.stage ≡ s → Went ps t.steps →
    Went (seen_then ps (stage_task t now s) o) (done_then (stage_then t now s) (stage_task t now s) o e).steps
stage_went ps t now o e Rests i w = if_stands ps (rests t.stage) t t w w
stage_went ps t now o e Begins i w = if_stands ps (rests t.stage) t (came_to t Begin o e) w w
stage_went ps t now o e Windows i w =
    let stands : rests t.stage ≡ false = ap rests i in
    subst (λ b. Went (cond o.goes_on [] ps) (cond b t (entered t o)).steps) (sym stands) (window_went ps t o w)
stage_went ps t now o e Parts i w = step_went ps t now o e (step_of t.steps now) refl w
stage_went ps t now o e Returns i w = if_stands ps (rests t.stage) t (came_to t (Return t.part) o e) w (record { seen = w.seen; within = w.within })
stage_went ps t now o e Ends i w = if_stands ps (rests t.stage) t (came_to t End o e) w w

turn_went : (ps : List ℕ) (t : Tasks) (x : Turn) → Went ps t.steps → Went (seen_then ps (its_task t x) x.outcome) (after_turn t x).steps
turn_went ps t x w = pick (first_task t x.now x.wait) (firsts_are t x.now x.wait) where
  later : (b : Bool) →
      Went (seen_then ps (cond b Release (stage_task t x.now t.stage)) x.outcome)
      (done_then (cond b t (stage_then t x.now t.stage)) (cond b Release (stage_task t x.now t.stage)) x.outcome x.ended).steps
  later true = if_stands ps (rests t.stage) t (came_to t Release x.outcome x.ended) w w
  later false = stage_went ps t x.now x.outcome x.ended t.stage refl w

  pick : (o : Option Task) → are_first o ≡ true →
      Went (seen_then ps (or_task o (later_task t x.now)) x.outcome) (done_then (tasks_by o t x.now) (or_task o (later_task t x.now)) x.outcome x.ended).steps
  pick None f = later t.releases
  pick (Some first) f = first_went ps t first x.outcome x.ended f w

went : (xs : List Turn) (t : Tasks) (ps : List ℕ) → Went ps t.steps → Went (seen t ps xs) (run t xs).steps
went [] t ps w = w
went (x ∷ xs) t ps w = went xs (after_turn t x) (seen_then ps (its_task t x) x.outcome) (turn_went ps t x w)

begins : Went [] look_begun.steps
begins = record { seen = refl; within = omega arith }

pub each_part_comes_once : EachPartComesOnce
each_part_comes_once xs = (went xs look_begun [] begins).seen

-- where a window is left by itself all its parts have come
all_come : (t : Tasks) (now wait : ℕ) → t.stage ≡ Parts → (asked_then t now wait).stage ≡ Windows → t.steps.parts ≤ t.steps.next_part
all_come t now wait i e = pick (first_task t now wait) e where
  steps : (k : Step) → step_of t.steps now ≡ k → (stepped_in t now k).stage ≡ Windows → t.steps.parts ≤ t.steps.next_part
  steps (Step.Look part) j f = absurd cc
  steps (Step.Return part) j f = absurd cc
  steps Step.Over j f = (over_is t.steps now j).all

  stages : (s : Stage) → t.stage ≡ s → (stage_then t now s).stage ≡ Windows → t.steps.parts ≤ t.steps.next_part
  stages Rests j f = absurd cc
  stages Begins j f = absurd cc
  stages Windows j f = absurd cc
  stages Parts j f = steps (step_of t.steps now) refl f
  stages Returns j f = absurd cc
  stages Ends j f = absurd cc

  later : (b : Bool) → (cond b t (stage_then t now t.stage)).stage ≡ Windows → t.steps.parts ≤ t.steps.next_part
  later true f = absurd cc
  later false f = stages t.stage refl f

  pick : (o : Option Task) → (tasks_by o t now).stage ≡ Windows → t.steps.parts ≤ t.steps.next_part
  pick None f = later t.releases f
  pick (Some first) f = absurd cc

pub all_parts_come : AllPartsCome
all_parts_come xs now wait i e =
    let w : Went (seen look_begun [] xs) (run look_begun xs).steps = went xs look_begun [] begins in
    let all : (run look_begun xs).steps.parts ≤ (run look_begun xs).steps.next_part = all_come (run look_begun xs) now wait i e in
    let is : (run look_begun xs).steps.next_part ≡ (run look_begun xs).steps.parts = omega (arith, all, w.within) in
    w.seen ∙ ap (λ k. numbers_from 0 k) is
