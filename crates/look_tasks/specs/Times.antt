-- When looks begin.
use Rattle.std.specs.Prelude.{ℕ, ◌+◌, ◌-◌, ◌*◌, ◌/◌, min, max, Bool, ◌&&◌, ◌||◌, nat_le, nat_lt, if◌then◌else◌}
use Rattle.look_tasks.specs.declared.times.LookFinds.{LookFinds}
use Rattle.look_tasks.specs.declared.times.LookTimes.{LookTimes}
use Rattle.look_tasks.specs.declared.times.TheConstants.{AGAIN_NS, ASKED_LITTLE, BUSY_PART, CALM_LOOKS, CALM_PART, DEAR_PART, EAGER_LOOKS, FOUND_LITTLE, LEAST_PART, LONGER_PART, MUCH, MUCH_PART, TURNS_LEAST, TURNS_MOST}

abbrev pub begun : ℕ → LookTimes
begun period = record { period_ms = period; calm = 0; eager = 0; turns = TURNS_LEAST; now_ms = period }

-- there is a new window, or a new lender
abbrev pub made_eager : LookTimes → LookTimes
made_eager t = record t { eager = EAGER_LOOKS }

abbrev pub is_much : LookFinds → Bool
is_much f = nat_le MUCH f.found && nat_le (f.pages / MUCH_PART) f.found

-- next to nothing was found
abbrev pub is_calm_look : LookFinds → Bool
is_calm_look f = nat_le f.found FOUND_LITTLE && nat_le (f.asked - f.again) ASKED_LITTLE

-- the next look comes sooner, if there is a lender
abbrev pub is_eager : LookTimes → Bool → Bool
is_eager t may_lend = may_lend && nat_lt 0 t.eager

abbrev pub eager_then : LookTimes → Bool → ℕ
eager_then t may_lend = if is_eager t may_lend then t.eager - 1 else t.eager

-- looks in a row that found next to nothing
abbrev pub calm_then : LookTimes → LookFinds → ℕ
calm_then t f = if is_calm_look f then min (t.calm + 1) CALM_LOOKS else 0

-- the look lasted long, and questions that were asked before took much of it
abbrev pub is_dear : LookTimes → LookFinds → Bool
is_dear t f = nat_lt (t.period_ms * 2) f.took_ms && nat_lt (f.spent_ns / (AGAIN_NS * DEAR_PART)) f.again

-- it was short, or they took little of it
abbrev pub is_cheap : LookTimes → LookFinds → Bool
is_cheap t f = nat_lt f.took_ms (t.period_ms / 2) || nat_lt f.again (f.spent_ns / (AGAIN_NS * DEAR_PART * 4))

abbrev pub turns_then : LookTimes → LookFinds → ℕ
turns_then t f = if is_dear t f then min (t.turns * 2) TURNS_MOST else (if is_cheap t f then max (t.turns / 2) TURNS_LEAST else t.turns)

abbrev pub longer : LookTimes → ℕ
longer t = if nat_lt t.now_ms (t.period_ms * CALM_PART) then t.now_ms + t.period_ms / LONGER_PART else t.now_ms

abbrev pub next_ms : LookTimes → LookFinds → Bool → ℕ
next_ms t f may_lend =
    if is_eager t may_lend || is_much f then t.period_ms / BUSY_PART
    else (if nat_le CALM_LOOKS (calm_then t f) then longer t else t.period_ms)

abbrev pub looked : LookTimes → LookFinds → Bool → LookTimes
looked t f may_lend = record {
  period_ms = t.period_ms;
  calm = calm_then t f;
  eager = eager_then t may_lend;
  turns = turns_then t f;
  now_ms = max (next_ms t f may_lend) 1;
}

-- how long a pause is at least
abbrev pub least_of : LookTimes → ℕ → ℕ
least_of t took = if nat_le CALM_LOOKS t.calm then max (t.now_ms / LEAST_PART + 1) took else t.now_ms / LEAST_PART + 1

abbrev pub pause_of : LookTimes → ℕ → ℕ
pause_of t took = max (t.now_ms - took) (least_of t took)
