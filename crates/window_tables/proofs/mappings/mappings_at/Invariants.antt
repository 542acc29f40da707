use Rattle.std.proofs.Common.{◌≡◌, ◌≤◌}
use Rattle.window_tables.specs.Mappings.{mappings_from}
use Rattle.window_tables.proofs.mappings.mappings_at.Given as goal

abbrev pub invariant-loop-step : goal.invariant-loop-step
invariant-loop-step l = record {
  value : l.found ≡ mappings_from l.lead l.parts l.pages l.first l.step;
  most : l.found ≤ l.step;
}
