use Rattle.std.proofs.Common.{◌≡◌, true}
use Rattle.page_holds.specs.Rows.{RowChanges}
use Rattle.part_scans.specs.Scans.{GoesOnAt}
use Rattle.window_tables.specs.Tables.{Counted, has_parts}
use Rattle.part_scans.proofs.outcomes.go_on_each.Given as goal

abbrev pub invariant-loop-n : goal.invariant-loop-n
invariant-loop-n l = record {
  changed : RowChanges (GoesOnAt l.scan l.first l.outcomes) l.first 0 l.n l.fn.pages l.pages l.fn.row l.row;
  counted : Counted l.lead l.fn.pages l.fn.parts → Counted l.lead l.pages l.parts;
  parts : has_parts l.lead l.pages l.parts ≡ true;
}
