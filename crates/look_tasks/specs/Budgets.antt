-- What a budget of processor time has counted, and what a call does to that.
use Rattle.std.specs.Prelude.{ℕ, ◌+◌, ◌-◌, ◌*◌, ◌/◌, ◌≤◌, min, max, Bool, nat_le, nat_eq, if◌then◌else◌}
use Rattle.look_tasks.specs.declared.config.BudgetConfig.{BudgetConfig}
use Rattle.look_tasks.specs.declared.config.BudgetCounts.{BudgetCounts}

-- The rates are in percent of a processor, and all else in nanoseconds. `time` and `spent` are what the clocks said last: the time, and the
-- processor time that the thread has used.
pub record Ledger : Type 0 where
  pub percent : ℕ
  pub burst : ℕ
  pub saved_most : ℕ
  pub owed_most : ℕ
  pub credit_most : ℕ
  pub time : ℕ
  pub spent : ℕ
  pub saved : ℕ
  pub owed : ℕ
  pub credit : ℕ

-- What holds of each budget. More can't be owed than the thread has used.
pub record IsLedger (percent burst saved_most credit_most spent saved owed credit : ℕ) : Type 0 where
  pub least : 1 ≤ percent
  pub order : percent ≤ burst
  pub most : burst ≤ 100
  pub saves : saved ≤ saved_most
  pub credits : credit ≤ credit_most
  pub owes : owed ≤ spent

-- so many percent of a time
abbrev pub part_of : ℕ → ℕ → ℕ
part_of percent ns = percent * ns / 100

-- a share is 1 to 100 percent, and a burst is no less
abbrev pub share_of : ℕ → ℕ
share_of percent = max (min percent 100) 1

abbrev pub burst_of : ℕ → ℕ → ℕ
burst_of percent burst = max (min burst 100) (share_of percent)

-- at the beginning nothing is saved or owed
abbrev pub begun : BudgetConfig → ℕ → ℕ → Ledger
begun config now spent = record {
  percent = share_of config.percent;
  burst = burst_of config.percent config.burst;
  saved_most = config.saved_ns;
  owed_most = config.owed_ns;
  credit_most = config.credit_ns;
  time = now;
  spent = spent;
  saved = 0;
  owed = 0;
  credit = 0;
}

-- its rates and limits
abbrev pub config_of : Ledger → BudgetConfig
config_of b = record { percent = b.percent; burst = b.burst; saved_ns = b.saved_most; owed_ns = b.owed_most; credit_ns = b.credit_most }

-- what it has counted
abbrev pub counts_of : Ledger → BudgetCounts
counts_of b = record { time = b.time; spent = b.spent; saved = b.saved; owed = b.owed; credit = b.credit }

-- A budget with these rates and limits that has counted this. Of a number beyond a limit the limit is left, and no more is owed than was used.
abbrev pub resumed : BudgetConfig → BudgetCounts → Ledger
resumed config counts = record {
  percent = share_of config.percent;
  burst = burst_of config.percent config.burst;
  saved_most = config.saved_ns;
  owed_most = config.owed_ns;
  credit_most = config.credit_ns;
  time = counts.time;
  spent = counts.spent;
  saved = min counts.saved config.saved_ns;
  owed = min counts.owed counts.spent;
  credit = min counts.credit config.credit_ns;
}

-- with other rates
abbrev pub paced : Ledger → ℕ → ℕ → Ledger
paced b percent burst = record b { percent = share_of percent; burst = burst_of percent burst }

-- with more credit
abbrev pub credited : Ledger → ℕ → Ledger
credited b ns = record b { credit = min b.credit_most (b.credit + ns) }

-- what is due once the thread has used `spent`
abbrev pub due : Ledger → ℕ → ℕ
due b spent = b.owed + (spent - b.spent)

-- what of that is paid by what was saved
abbrev pub by_saved : Ledger → ℕ → ℕ
by_saved b spent = min b.saved (due b spent)

-- then by the share of the time that passed
abbrev pub share : Ledger → ℕ → ℕ
share b now = part_of b.percent (now - b.time)

abbrev pub by_share : Ledger → ℕ → ℕ → ℕ
by_share b now spent = min (share b now) (due b spent - by_saved b spent)

-- and then by the credit, up to the burst
abbrev pub extra : Ledger → ℕ → ℕ
extra b now = part_of (b.burst - b.percent) (now - b.time)

abbrev pub by_credit : Ledger → ℕ → ℕ → ℕ
by_credit b now spent = min (min (extra b now) b.credit) (due b spent - by_saved b spent - by_share b now spent)

-- what was used is counted, at these readings of the clocks
abbrev pub settled : Ledger → ℕ → ℕ → Ledger
settled b now spent = record b {
  time = max b.time now;
  spent = max b.spent spent;
  saved = min b.saved_most ((b.saved - by_saved b spent) + (share b now - by_share b now spent));
  owed = due b spent - by_saved b spent - by_share b now spent - by_credit b now spent;
  credit = b.credit - by_credit b now spent;
}

-- the thread may work
abbrev pub may_work : Ledger → Bool
may_work b = nat_le b.owed b.owed_most

-- the rate at which it pays what it owes
abbrev pub rate : Ledger → ℕ
rate b = if nat_eq b.credit 0 then b.percent else b.burst

-- how long it is to wait: until what it owes is paid, or ten seconds of that
abbrev pub wait_of : Ledger → ℕ
wait_of b = if may_work b then 0 else (min b.owed 10000000000 * 100 + rate b - 1) / rate b

-- a call of the thread: it counts what it used at these readings, or it gets a credit
pub data Call : Type 0 where
  settles : ℕ → ℕ → Call
  credits : ℕ → Call

abbrev pub called : Ledger → Call → Ledger
called b (settles now spent) = settled b now spent
called b (credits ns) = credited b ns
