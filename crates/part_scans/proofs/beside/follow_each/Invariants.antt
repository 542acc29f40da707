use Rattle.std.proofs.Common.{◌≡◌, true}
use Rattle.page_holds.specs.Rows.{RowChanges}
use Rattle.part_scans.specs.Scans.{FollowsAt, changed_before}
use Rattle.window_tables.specs.Tables.{Counted, has_parts}
use Rattle.part_scans.proofs.beside.follow_each.Given as goal

abbrev pub invariant-loop-n : goal.invariant-loop-n
invariant-loop-n l = record {
  changed : RowChanges (FollowsAt l.scan l.table l.pins l.first l.memory l.fn.row) l.first 0 l.n l.fn.pages l.pages l.fn.row l.row;
  counted : Counted l.lead l.fn.pages l.fn.parts → Counted l.lead l.pages l.parts;
  parts : has_parts l.lead l.pages l.parts ≡ true;
  before : l.before ≡ changed_before l.fn.row l.n;
}
