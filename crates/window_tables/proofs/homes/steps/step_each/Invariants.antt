use Rattle.std.proofs.Common.{◌≡◌, ◌+◌, true}
use Rattle.window_tables.specs.Changes.{Changed}
use Rattle.window_tables.specs.Facts.{facts_at}
use Rattle.window_tables.specs.Homes.{Became}
use Rattle.window_tables.specs.Tables.{Counted, has_parts}
use Rattle.window_tables.proofs.homes.steps.step_each.Given as goal

abbrev pub invariant-loop-n : goal.invariant-loop-n
invariant-loop-n l = record {
  changed : Changed (λ i. Became l.step (facts_at l.table l.pins l.why (l.first + i))) l.first l.n l.fn.pages l.pages;
  counted : Counted l.lead l.fn.pages l.fn.parts → Counted l.lead l.pages l.parts;
  parts : has_parts l.lead l.pages l.parts ≡ true;
}
