-- What a thread does at intervals, whether its budget lets it work or not.
use Rattle.std.specs.Prelude.{ℕ, ◌+◌, ◌-◌, ◌*◌, ◌/◌, ◌<◌, ◌≤◌, min, max, List, [], ◌∷◌}
use Rattle.look_tasks.specs.Budgets.{share_of}

-- the last moment that a clock reads
abbrev pub never : ℕ
never = 18446744073709551615

-- Of a tenth of this share, so much is used in this time, rounded up.
abbrev pub time_for : ℕ → ℕ → ℕ
time_for share used = (used * 1000 + share - 1) / share

abbrev pub again_at : ℕ → ℕ → ℕ → ℕ → ℕ
again_at percent begun took least = min never (begun + max least (time_for (share_of percent) took))

-- one run of a chore: when it began, the processor time that it used, and the least time until the next one
pub record Run : Type 0 where
  pub begun : ℕ
  pub took : ℕ
  pub least : ℕ

-- Each of these runs, the latest first, began no sooner than the one before it allows.
abbrev pub InTime : ℕ → Run → List Run → Type 0
InTime percent r [] = Unit {0}
InTime percent r (q ∷ qs) = (again_at percent q.begun q.took q.least ≤ r.begun) × InTime percent q qs

-- the processor time that they used
abbrev pub used : List Run → ℕ
used [] = 0
used (r ∷ rs) = r.took + used rs

-- when the first of them began
abbrev pub first : Run → List Run → ℕ
first r [] = r.begun
first r (q ∷ qs) = first q qs

-- Until the latest run began, those before it had used at most a tenth of the share of the time since the first one.
abbrev pub KeepsToATenth : Type 0
KeepsToATenth =
    (percent : ℕ) (latest : Run) (runs : List Run) → InTime percent latest runs → latest.begun < never →
    1000 * used runs ≤ share_of percent * (latest.begun - first latest runs)
