use Rattle.std.proofs.Common.{◌≡◌, ◌+◌, ◌*◌, ◌≤◌}
use Rattle.std.specs.Prelude.{replicate}
use Rattle.window_pages.specs.Laws.{new_page}
use Rattle.window_tables.specs.Mappings.{mappings_from}
use Rattle.window_tables.proofs.mappings.mappings_new.Given as goal

abbrev pub invariant-loop-step : goal.invariant-loop-step
invariant-loop-step l = record {
  value : l.found ≡ mappings_from l.lead l.parts (replicate l.count new_page) 0 (l.first + l.step * 512);
  most : l.found ≤ l.step + 1;
}
