-- What the numbers of C are as a budget.
use Rattle.std.specs.Prelude.{ℕ}
use Rattle.look_tasks.specs.Budgets.{Ledger, resumed}
use Rattle.look_tasks.specs.declared.config.BudgetConfig.{BudgetConfig}
use Rattle.pageshare_window_c.specs.declared.budget.WindowBudget.{WindowBudget}
use Rattle.pageshare_window_c.specs.declared.budget.TheConstants.{SAVED_NS, OWED_NS, CREDIT_NS}

-- these rates, and the limits of each budget of this library
abbrev pub rates : ℕ → ℕ → BudgetConfig
rates percent burst = record { percent = percent; burst = burst; saved_ns = SAVED_NS; owed_ns = OWED_NS; credit_ns = CREDIT_NS }

-- the budget whose numbers these are
abbrev pub ledger_of : WindowBudget → Ledger
ledger_of b = resumed (rates b.percent b.burst) (record { time = b.time; spent = b.spent; saved = b.saved; owed = b.owed; credit = b.credit })
