use Rattle.std.proofs.Common.{◌≤◌, All}
use Rattle.merge_core.specs.Hashing.{IsPaged}
use Rattle.merge_core.specs.View.{pmap_of}
use Rattle.page_forecasts.specs.declared.forecasts.TheConstants.{FORECASTS}
use Rattle.merge_core.proofs.forecast.at_rest.Given as goal

abbrev pub invariant-loop-i : goal.invariant-loop-i
invariant-loop-i g l = record {
  few : l.changing ≤ FORECASTS;
  paged : All (λ pair. IsPaged (pmap_of l.fn.held) pair.0 pair.1) l.pairs.items;
}
