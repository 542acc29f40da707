-- What a thread uses over a stretch of calls.
use Rattle.std.specs.Prelude.{◌≡◌, ℕ, ◌+◌, ◌-◌, ◌*◌, ◌≤◌, min, true, if◌then◌else◌, List, [], ◌∷◌}
use Rattle.look_tasks.specs.Budgets.{Ledger, Call, settles, credits, settled, credited, called, may_work, wait_of}

-- after these calls, each of which does this
abbrev pub after : (Ledger → Call → Ledger) → Ledger → List Call → Ledger
after calls b [] = b
after calls b (c ∷ cs) = after calls (calls b c) cs

-- the credit that these calls give
abbrev pub given : List Call → ℕ
given [] = 0
given (settles now spent ∷ cs) = given cs
given (credits ns ∷ cs) = ns + given cs

-- From one moment to another: what was used is at most the share of the time that passed, what was saved, the credit that there was and was
-- given, and what is owed. It is at most the burst's share, what was saved, and what is owed.
pub record IsWithin (from to : Ledger) (credit : ℕ) : Type 0 where
  pub share : 100 * (to.spent - from.spent) ≤ from.percent * (to.time - from.time) + 100 * (from.saved + from.credit + credit + to.owed)
  pub burst : 100 * (to.spent - from.spent) ≤ from.burst * (to.time - from.time) + 100 * (from.saved + to.owed)

-- So it is over every stretch of calls.
abbrev pub EveryStretch : (Ledger → Call → Ledger) → Type 0
EveryStretch calls = (b : Ledger) (cs : List Call) → b.percent ≤ b.burst → IsWithin b (after calls b cs) (given cs)

-- Where the thread may work after a stretch of calls, and works until it has used `spent`: what it has used since the stretch began is within
-- what it may owe, beside the same and what it used for that work.
abbrev pub OneOrderMore : (Ledger → Call → Ledger) → Type 0
OneOrderMore calls =
    (b : Ledger) (cs : List Call) (spent : ℕ) → b.percent ≤ b.burst → let to : Ledger = after calls b cs in may_work to ≡ true → to.spent ≤ spent →
    100 * (spent - b.spent) ≤ b.percent * (to.time - b.time) + 100 * (b.saved + b.credit + given cs + b.owed_most + (spent - to.spent))

-- A thread that does nothing for as long as it is to wait, and has no credit, may work then.
abbrev pub WaitsEnough : Type 0
WaitsEnough = (b : Ledger) → 1 ≤ b.percent → b.credit ≡ 0 → b.owed ≤ 10000000000 → may_work (settled b (b.time + wait_of b) b.spent) ≡ true

-- a budget that counts each order by itself: what is owed is forgotten
abbrev pub by_order_only : Ledger → Call → Ledger
by_order_only b c = called (record b { owed = 0 }) c

-- a budget that lets off what is owed above so much
abbrev pub lets_off : ℕ → Ledger → Call → Ledger
lets_off most b c = record (called b c) { owed = min (called b c).owed most }

-- it doesn't keep to its share, whatever the amount is
abbrev pub LettingOffIsWrong : Type 0
LettingOffIsWrong = (most : ℕ) → OneOrderMore (lets_off most) → ⊥

-- At each of these calls the thread has used nothing since the last one where it might not work, and otherwise no more than this.
abbrev pub WorksBriefly : ℕ → Ledger → List Call → Type 0
WorksBriefly longest b [] = Unit {0}
WorksBriefly longest b (settles now spent ∷ cs) = (spent - b.spent ≤ (if may_work b then longest else 0)) × WorksBriefly longest (settled b now spent) cs
WorksBriefly longest b (credits ns ∷ cs) = WorksBriefly longest (credited b ns) cs

-- Where that and what the thread may owe are no more than what isn't let off, nothing is ever let off.
abbrev pub NothingIsLetOff : Type 0
NothingIsLetOff =
    (most longest : ℕ) (b : Ledger) (cs : List Call) → b.owed_most + longest ≤ most → b.owed ≤ most → WorksBriefly longest b cs → after (lets_off most) b cs ≡ after called b cs
