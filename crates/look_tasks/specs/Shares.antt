-- What a thread uses that does the tasks of a look by a budget.
use Rattle.std.specs.Prelude.{◌≡◌, ℕ, ◌+◌, ◌-◌, ◌*◌, ◌≤◌, true, List, [], ◌∷◌}
use Rattle.look_tasks.specs.Laws.{after_turn, works}
use Rattle.look_tasks.specs.Tasks.{Tasks, task_of}
use Rattle.look_tasks.specs.declared.task.TaskOutcome.{TaskOutcome}
use Rattle.look_tasks.specs.Budgets.{Call, Ledger, called, credits, settled, settles, wait_of}
use Rattle.look_tasks.specs.Stretches.{after, given}

-- The thread settles its budget by its two clocks, and asks what comes next. It does that, and says what came of it. Or its budget gets a credit.
pub data Move : Type 0 where
  takes_turn : (now spent : ℕ) (outcome : TaskOutcome) (ended : ℕ) → Move
  gets : ℕ → Move

-- what that is for the budget
abbrev pub call_of : Move → Call
call_of (takes_turn now spent outcome ended) = settles now spent
call_of (gets ns) = credits ns

abbrev pub calls_of : List Move → List Call
calls_of [] = []
calls_of (m ∷ ms) = call_of m ∷ calls_of ms

-- where the look is then
abbrev pub after_move : Tasks → Ledger → Move → Tasks
after_move t b (takes_turn now spent outcome ended) = after_turn t (record { now = now; wait = wait_of (settled b now spent); outcome = outcome; ended = ended })
after_move t b (gets ns) = t

abbrev pub after_moves : Tasks → Ledger → List Move → Tasks
after_moves t b [] = t
after_moves t b (m ∷ ms) = after_moves (after_move t b m) (called b (call_of m)) ms

-- After any of these the thread asks what comes next, and it is a task with which it works. Once that is done, and the thread has used so much
-- in all, it has used since they began at most a sum of these: its share of the time that passed, what was saved, the credit that there was and was
-- given, what it may owe, and this task.
abbrev pub KeepsToItsShare : Type 0
KeepsToItsShare =
    (t : Tasks) (b : Ledger) (ms : List Move) (now spent used : ℕ) → 1 ≤ b.percent → b.percent ≤ b.burst →
    let to : Ledger = settled (after called b (calls_of ms)) now spent in works (task_of (after_moves t b ms) now (wait_of to)) ≡ true → to.spent ≤ used →
    100 * (used - b.spent) ≤ b.percent * (to.time - b.time) + 100 * (b.saved + b.credit + given (calls_of ms) + b.owed_most + (used - to.spent))
