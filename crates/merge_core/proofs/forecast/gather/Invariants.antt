use Rattle.std.proofs.Common.{◌≤◌}
use Rattle.page_forecasts.specs.declared.forecasts.TheConstants.{FORECASTS}
use Rattle.merge_core.proofs.forecast.gather.Given as goal

abbrev pub invariant-loop-i : goal.invariant-loop-i
invariant-loop-i g l = record {
  few : l.count ≤ FORECASTS;
}
