use Rattle.std.proofs.Common.{◌≡◌, true}
use Rattle.window_tables.specs.Changes.{Changed, IsNow}
use Rattle.window_tables.specs.Tables.{Counted, has_parts}
use Rattle.window_tables.proofs.changes.change_each.Given as goal

abbrev pub invariant-loop-behind : goal.invariant-loop-behind
invariant-loop-behind l = record {
  changed : Changed (IsNow l.what) l.first l.behind l.fn.pages l.pages;
  counted : Counted l.lead l.fn.pages l.fn.parts → Counted l.lead l.pages l.parts;
  parts : has_parts l.lead l.pages l.parts ≡ true;
}
