use Rattle.std.proofs.Common.{◌≡◌, ◌+◌, true}
use Rattle.std.specs.Prelude.{slice_index_or}
use Rattle.page_holds.specs.Orders.{facts_there}
use Rattle.page_holds.specs.Rows.{Asks, PageBecomes}
use Rattle.window_tables.specs.Changes.{Changed}
use Rattle.window_tables.specs.Tables.{Counted, has_parts}
use Rattle.page_holds.proofs.rows.order.ask_each.Given as goal

abbrev pub invariant-loop-n : goal.invariant-loop-n
invariant-loop-n l = record {
  changed : Changed (λ n. PageBecomes (Asks (facts_there l.table l.pins (l.first + n)) (slice_index_or l.row n 0))) l.first l.n l.fn.pages l.pages;
  counted : Counted l.lead l.fn.pages l.fn.parts → Counted l.lead l.pages l.parts;
  parts : has_parts l.lead l.pages l.parts ≡ true;
}
