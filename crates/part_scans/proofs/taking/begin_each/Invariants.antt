use Rattle.std.proofs.Common.{◌≡◌, ◌+◌, true}
use Rattle.page_holds.specs.Rows.{RowChanges}
use Rattle.part_scans.specs.Scans.{BeginsAt, turn_at}
use Rattle.window_tables.specs.Tables.{Counted, has_parts}
use Rattle.part_scans.proofs.taking.begin_each.Given as goal

abbrev pub invariant-loop-n : goal.invariant-loop-n
invariant-loop-n l = record {
  changed : RowChanges (BeginsAt l.scan l.table l.pins l.first l.all l.memory) l.first 0 l.n l.fn.pages l.pages l.fn.row l.row;
  counted : Counted l.lead l.fn.pages l.fn.parts → Counted l.lead l.pages l.parts;
  parts : has_parts l.lead l.pages l.parts ≡ true;
  turn : l.is_turn ≡ turn_at l.scan (l.first + l.n);
}
