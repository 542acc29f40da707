use Rattle.std.proofs.Common.{◌≡◌, ◌+◌, ℕ, ◌<◌, length, sym, subst, arith}
use Rattle.std.specs.Prelude.{nat_lt, slice_index_or, slice_set}
use Rattle.page_holds.proofs.RowsKept.{Keeps, byte_there, hears_follow, keeps, row_more, row_none}
use Rattle.page_holds.specs.Bytes.{step_by}
use Rattle.page_holds.specs.Rows.{CameOut, Hears, PageChanges, RowChanges}
use Rattle.page_holds.specs.Steps.{outcome_for}
use Rattle.page_holds.proofs.rows.changes.come_out_each.Goals as goal

pub loop-n-init : goal.loop-n-init
loop-n-init c = record {
  changed = row_none (CameOut c.args.done) c.args.first c.args.begin c.args.pages.now c.args.row.now;
  counted = λ h. h;
  parts = c.requires.parts;
}

pub loop-n-preserved : goal.loop-n-preserved
loop-n-preserved c =
    let byte : ℕ = slice_index_or c.loop-n.row (c.args.begin + c.loop-n.n) 0 in
    let o : PageChanges (Hears (λ b. outcome_for (step_by b byte) b (nat_lt c.loop-n.n c.args.done))) c.args.lead (c.args.first + (c.args.begin + c.loop-n.n)) c.loop-n.pages c.come_out_at-after.new.pages c.loop-n.parts c.come_out_at-after.new.parts = c.come_out_at-after.ensures.page in
    let k : Keeps c.args.lead c.loop-n.pages c.come_out_at-after.new.pages c.loop-n.parts c.come_out_at-after.new.parts =
    keeps (Hears (λ b. outcome_for (step_by b byte) b (nat_lt c.loop-n.n c.args.done))) c.args.lead (c.args.first + (c.args.begin + c.loop-n.n)) c.loop-n.pages c.come_out_at-after.new.pages c.loop-n.parts c.come_out_at-after.new.parts o
    (hears_follow (λ b. outcome_for (step_by b byte) b (nat_lt c.loop-n.n c.args.done)) o.before o.after o.part o.part_after o.becomes) in
    let inside : c.args.begin + c.loop-n.n < length c.loop-n.row = omega (arith, c.loop-n-test.true, c.requires.run, c.loop-n.invariant.changed.bytes) in
    let its : CameOut c.args.done c.loop-n.n byte c.come_out_at-after.result o.before o.after = record {
      written = c.come_out_at-after.ensures.byte o.before o.is_there;
      page = record { part = o.part; part_after = o.part_after; becomes = o.becomes };
    } in
    record {
      changed =
          subst (λ v. RowChanges (CameOut c.args.done) c.args.first c.args.begin (c.loop-n.n + 1) c.args.pages.now v c.args.row.now (slice_set c.loop-n.row (c.args.begin + c.loop-n.n) c.come_out_at-after.result)) (sym o.changed)
          (row_more (CameOut c.args.done) c.args.first c.args.begin c.loop-n.n c.args.pages.now c.loop-n.pages c.args.row.now c.loop-n.row o.before o.after byte c.come_out_at-after.result c.loop-n.invariant.changed o.is_there (byte_there c.loop-n.row (c.args.begin + c.loop-n.n) inside) its);
      counted = λ h. k.counted (c.loop-n.invariant.counted h);
      parts = k.parted c.loop-n.invariant.parts;
    }

pub returns-clause-pages : goal.returns-clause-pages
returns-clause-pages c =
    let e : c.loop-n.n ≡ c.args.count = omega (arith, c.loop-n-test.false, c.loop-n.auto.n-end) in
    subst (λ n. RowChanges (CameOut c.args.done) c.args.first c.args.begin n c.args.pages.now c.loop-n.pages c.args.row.now c.loop-n.row) e c.loop-n.invariant.changed
