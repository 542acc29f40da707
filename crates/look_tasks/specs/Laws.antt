-- What the tasks of a look are worth: what comes before what, which parts come, and what isn't put off.
use Rattle.std.specs.Prelude.{◌≡◌, ℕ, ◌<◌, Bool, true, false, if◌then◌else◌, List, [], ◌∷◌, ◌++◌}
use Rattle.look_tasks.specs.StepLaws.{numbers_from}
use Rattle.look_tasks.specs.Tasks.{Tasks, asked_then, attend_after, done_then, look_begun, rests, task_of}
use Rattle.look_tasks.specs.declared.task.TaskOutcome.{TaskOutcome}
use Rattle.look_tasks.specs.declared.task.Sharing.TheVariants.{Gathers}
use Rattle.look_tasks.specs.declared.task.Stage.TheVariants.{Parts, Windows}
use Rattle.look_tasks.specs.declared.task.Task.{Task}
use Rattle.look_tasks.specs.declared.task.Task.TheVariants.{Over, Sleep, Begin, Attend, Release, Window, Look, Return, GiveBack, Ask, Copy, Lend, Hold, End}

-- The thread asks what comes next, where its clock reads `now` and it has to sleep for `wait`. It does that, and says what came of it, where the
-- clock reads `ended`.
pub record Turn : Type 0 where
  pub now : ℕ
  pub wait : ℕ
  pub outcome : TaskOutcome
  pub ended : ℕ

abbrev pub its_task : Tasks → Turn → Task
its_task t x = task_of t x.now x.wait

abbrev pub after_turn : Tasks → Turn → Tasks
after_turn t x = done_then (asked_then t x.now x.wait) (its_task t x) x.outcome x.ended

-- where a look is after these turns, of which the earliest is the first
abbrev pub run : Tasks → List Turn → Tasks
run t [] = t
run t (x ∷ xs) = run (after_turn t x) xs

-- ---- what was found comes first ----

-- with this task a part comes twice, or a window is left, or the look ends
abbrev pub leaves : Task → Bool
leaves Over = false
leaves (Sleep ns) = false
leaves Begin = false
leaves Attend = false
leaves Release = false
leaves Window = true
leaves (Look part) = false
leaves (Return part) = true
leaves GiveBack = false
leaves Ask = false
leaves Copy = false
leaves Lend = false
leaves Hold = false
leaves End = true

-- No page is left that was found.
pub record NoneIsLeft (t : Tasks) : Type 0 where
  pub zeros : t.zeros ≡ 0
  pub idle : t.idle ≡ 0
  pub gathers : t.sharing ≡ Gathers

-- All that was found is shared or given back before a part comes twice, before a window is left, and before the look ends.
abbrev pub FoundComesFirst : Type 0
FoundComesFirst = (t : Tasks) (now wait : ℕ) → leaves (task_of t now wait) ≡ true → NoneIsLeft t

-- ---- which parts come ----

-- the parts of the window under way that were looked at, once this task has come to this
abbrev pub seen_then : List ℕ → Task → TaskOutcome → List ℕ
seen_then parts Over o = parts
seen_then parts (Sleep ns) o = parts
seen_then parts Begin o = parts
seen_then parts Attend o = parts
seen_then parts Release o = parts
seen_then parts Window o = if o.goes_on then [] else parts
seen_then parts (Look part) o = parts ++ part ∷ []
seen_then parts (Return part) o = parts
seen_then parts GiveBack o = parts
seen_then parts Ask o = parts
seen_then parts Copy o = parts
seen_then parts Lend o = parts
seen_then parts Hold o = parts
seen_then parts End o = parts

abbrev pub seen : Tasks → List ℕ → List Turn → List ℕ
seen t parts [] = parts
seen t parts (x ∷ xs) = seen (after_turn t x) (seen_then parts (its_task t x) x.outcome) xs

-- Whatever comes of the tasks, the parts of the window under way that were looked at are those before the next one, each once and in order.
abbrev pub EachPartComesOnce : Type 0
EachPartComesOnce = (xs : List Turn) → seen look_begun [] xs ≡ numbers_from 0 (run look_begun xs).steps.next_part

-- Where the look goes on from a window's parts to the next window by itself, these are all of its parts.
abbrev pub AllPartsCome : Type 0
AllPartsCome =
    (xs : List Turn) (now wait : ℕ) → (run look_begun xs).stage ≡ Parts → (asked_then (run look_begun xs) now wait).stage ≡ Windows →
    seen look_begun [] xs ≡ numbers_from 0 (run look_begun xs).steps.parts

-- ---- how a look ends ----

abbrev pub is_end : Task → Bool
is_end Over = false
is_end (Sleep ns) = false
is_end Begin = false
is_end Attend = false
is_end Release = false
is_end Window = false
is_end (Look part) = false
is_end (Return part) = false
is_end GiveBack = false
is_end Ask = false
is_end Copy = false
is_end Lend = false
is_end Hold = false
is_end End = true

-- A look that stands does so until its last task, whatever comes of the others.
abbrev pub StandsUntilItsEnd : Type 0
StandsUntilItsEnd = (t : Tasks) (x : Turn) → rests t.stage ≡ false → is_end (its_task t x) ≡ false → rests (after_turn t x).stage ≡ false

-- It doesn't end while slots may be to be released.
abbrev pub ReleasesComeFirst : Type 0
ReleasesComeFirst = (t : Tasks) (now wait : ℕ) → task_of t now wait ≡ End → t.releases ≡ false

-- ---- what may not wait ----

-- it may wait while the thread attends to what may not
abbrev pub may_wait : Task → Bool
may_wait Over = false
may_wait (Sleep ns) = true
may_wait Begin = true
may_wait Attend = false
may_wait Release = true
may_wait Window = true
may_wait (Look part) = true
may_wait (Return part) = true
may_wait GiveBack = true
may_wait Ask = true
may_wait Copy = true
may_wait Lend = true
may_wait Hold = true
may_wait End = true

-- with this task the thread works for the look
abbrev pub works : Task → Bool
works Over = false
works (Sleep ns) = false
works Begin = true
works Attend = false
works Release = true
works Window = true
works (Look part) = true
works (Return part) = true
works GiveBack = true
works Ask = true
works Copy = true
works Lend = true
works Hold = true
works End = true

abbrev pub is_attend : Task → Bool
is_attend Over = false
is_attend (Sleep ns) = false
is_attend Begin = false
is_attend Attend = true
is_attend Release = false
is_attend Window = false
is_attend (Look part) = false
is_attend (Return part) = false
is_attend GiveBack = false
is_attend Ask = false
is_attend Copy = false
is_attend Lend = false
is_attend Hold = false
is_attend End = false

-- No other task comes once it is time to attend to what may not wait.
abbrev pub AttendsInTime : Type 0
AttendsInTime = (t : Tasks) (now wait : ℕ) → may_wait (task_of t now wait) ≡ true → now < t.attend_ns

-- It is time a second after it was attended to, and nothing else puts it off.
abbrev pub AttendsAgain : Type 0
AttendsAgain = (t : Tasks) (x : Turn) → (after_turn t x).attend_ns ≡ (if is_attend (its_task t x) then attend_after x.ended else t.attend_ns)
