-- Sums over hosts.
use Rattle.std.specs.Prelude.{ℕ, ◌+◌, ◌-◌, ◌^◌, min, List, sum_by, unwrap_or, None}
use Rattle.report_text.specs.declared.rows.HostRow.{HostRow}
use Rattle.report_text.specs.declared.rows.TotalErrors.{TotalErrors}
use Rattle.report_text.specs.declared.rows.TotalRow.{TotalRow}

-- a sum of 64 bits with a number more
abbrev pub plus : ℕ → ℕ → ℕ
plus a b = min (a + b) (2 ^ 64 - 1)

-- the sum of a number of all hosts, at most 2^64 - 1
abbrev pub over : (HostRow → ℕ) → List HostRow → ℕ
over number hosts = min (sum_by number hosts) (2 ^ 64 - 1)

-- the numbers of all hosts: each is the sum of the hosts' numbers
abbrev pub sum_of : List HostRow → TotalRow
sum_of hosts = record {
  pages = over (λ host. host.total.pages) hosts;
  zero = over (λ host. host.total.zero) hosts;
  shared = over (λ host. host.total.shared) hosts;
  frames = over (λ host. host.total.frames) hosts;
  reclaimed = over (λ host. host.total.reclaimed) hosts;
  zero_reclaimed = over (λ host. host.total.zero_reclaimed) hosts;
  between = over (λ host. host.total.between) hosts;
  parts = record {
    zeros = over (λ host. host.total.parts.zeros) hosts;
    between = over (λ host. host.total.parts.between) hosts;
    within = over (λ host. host.total.parts.within) hosts;
  };
  errors = None;
}

-- numbers with those of one host more
abbrev pub row_added : TotalRow → HostRow → TotalRow
row_added row host = record {
  pages = plus row.pages host.total.pages;
  zero = plus row.zero host.total.zero;
  shared = plus row.shared host.total.shared;
  frames = plus row.frames host.total.frames;
  reclaimed = plus row.reclaimed host.total.reclaimed;
  zero_reclaimed = plus row.zero_reclaimed host.total.zero_reclaimed;
  between = plus row.between host.total.between;
  parts = record {
    zeros = plus row.parts.zeros host.total.parts.zeros;
    between = plus row.parts.between host.total.parts.between;
    within = plus row.parts.within host.total.parts.within;
  };
  errors = None;
}

abbrev pub no_errors : TotalErrors
no_errors = record { shared = 0; frames = 0; reclaimed = 0; between = 0; within = 0 }

-- the standard errors of a host's numbers
abbrev pub errors_in : HostRow → TotalErrors
errors_in host = unwrap_or host.total.errors no_errors

-- the sums of the hosts' standard errors
abbrev pub errors_of : List HostRow → TotalErrors
errors_of hosts = record {
  shared = over (λ host. (errors_in host).shared) hosts;
  frames = over (λ host. (errors_in host).frames) hosts;
  reclaimed = over (λ host. (errors_in host).reclaimed) hosts;
  between = over (λ host. (errors_in host).between) hosts;
  within = over (λ host. (errors_in host).within) hosts;
}

abbrev pub errors_added : TotalErrors → HostRow → TotalErrors
errors_added errors host = record {
  shared = plus errors.shared (errors_in host).shared;
  frames = plus errors.frames (errors_in host).frames;
  reclaimed = plus errors.reclaimed (errors_in host).reclaimed;
  between = plus errors.between (errors_in host).between;
  within = plus errors.within (errors_in host).within;
}

-- standard errors, but for frames at most those of the pool
abbrev pub bound_of : TotalErrors → TotalErrors → TotalErrors
bound_of errors pool = record {
  shared = min errors.shared pool.shared;
  frames = errors.frames;
  reclaimed = min errors.reclaimed pool.reclaimed;
  between = min errors.between pool.between;
  within = min errors.within pool.within;
}
