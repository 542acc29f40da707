use Rattle.std.proofs.Common.{ℕ, Option, List, take}
use Rattle.page_forecasts.specs.Forecasts.{Expects, left_by}
use Rattle.page_forecasts.proofs.forecast.Forecast.serve_all.Given as goal

abbrev pub invariant-loop-entry : goal.invariant-loop-entry
invariant-loop-entry g l = (salt : ℕ) (page : Option (List ℕ)) → Expects l.initial.self salt l.initial.is_mapped page
    → Expects l.self salt l.is_mapped (left_by (take l.entry-index l.requests) l.guest l.ppn page)
