use Rattle.std.proofs.Common.{◌≡◌, ◌≤◌, true, length}
use Rattle.lend_steps.specs.Releases.{Found}
use Rattle.window_tables.specs.Tables.{Counted, has_parts}
use Rattle.lend_steps.proofs.releases.to_release_each.Given as goal

abbrev pub invariant-loop-step : goal.invariant-loop-step
invariant-loop-step l = record {
  found : Found l.table l.pins l.lead l.first (length l.fn.places) l.fn.pages l.fn.parts l.fn.places l.step l.count l.pages l.parts l.places;
  room : l.count ≤ length l.fn.places;
  counted : Counted l.lead l.fn.pages l.fn.parts → Counted l.lead l.pages l.parts;
  parts : has_parts l.lead l.pages l.parts ≡ true;
  long : length l.pages ≡ length l.fn.pages;
  many : length l.places ≡ length l.fn.places;
}
