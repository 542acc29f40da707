use Rattle.std.proofs.Common.{◌≡◌, ◌∙◌, ◌+◌, ◌<◌, false, length, ap, sym, subst, arith}
use Rattle.std.specs.Prelude.{slice_index_or, slice_set}
use Rattle.page_holds.proofs.RowsKept.{Keeps, byte_there, hears_follow, keeps, row_more_first, row_none}
use Rattle.page_holds.specs.Bytes.{byte_of}
use Rattle.page_holds.specs.Rows.{Hears, IsBegun, PageChanges, RowChanges}
use Rattle.page_holds.specs.Steps.{asks_for, place_of}
use Rattle.page_holds.proofs.rows.changes.begin_each.Goals as goal

pub loop-n-init : goal.loop-n-init
loop-n-init c = record {
  changed = row_none (IsBegun c.args.takings.now) c.args.first 0 c.args.pages.now c.args.row.now;
  counted = λ h. h;
  parts = c.requires.parts;
}

pub loop-n-preserved : goal.loop-n-preserved
loop-n-preserved c =
    let o : PageChanges (Hears (λ b. asks_for b c.taking_by.result)) c.args.lead (c.args.first + c.loop-n.n) c.loop-n.pages c.begin_at-byte.new.pages c.loop-n.parts c.begin_at-byte.new.parts = c.begin_at-byte.ensures.page in
    let k : Keeps c.args.lead c.loop-n.pages c.begin_at-byte.new.pages c.loop-n.parts c.begin_at-byte.new.parts =
    keeps (Hears (λ b. asks_for b c.taking_by.result)) c.args.lead (c.args.first + c.loop-n.n) c.loop-n.pages c.begin_at-byte.new.pages c.loop-n.parts c.begin_at-byte.new.parts o
    (hears_follow (λ b. asks_for b c.taking_by.result) o.before o.after o.part o.part_after o.becomes) in
    let inside : c.loop-n.n < length c.loop-n.row = omega (arith, c.loop-n-test.true, c.requires.takings, c.loop-n.invariant.changed.bytes) in
    let its : IsBegun c.args.takings.now c.loop-n.n (slice_index_or c.loop-n.row c.loop-n.n 0) c.begin_at-byte.result o.before o.after = record {
      written = c.begin_at-byte.ensures.byte ∙ ap (λ t. byte_of (place_of t) false) c.taking_by.ensures;
      page = record {
        part = o.part;
        part_after = o.part_after;
        becomes = subst (λ t. Hears (λ b. asks_for b t) o.before o.after o.part o.part_after) c.taking_by.ensures o.becomes;
      };
    } in
    record {
      changed =
          subst (λ v. RowChanges (IsBegun c.args.takings.now) c.args.first 0 (c.loop-n.n + 1) c.args.pages.now v c.args.row.now (slice_set c.loop-n.row c.loop-n.n c.begin_at-byte.result)) (sym o.changed)
          (row_more_first (IsBegun c.args.takings.now) c.args.first c.loop-n.n c.args.pages.now c.loop-n.pages c.args.row.now c.loop-n.row o.before o.after (slice_index_or c.loop-n.row c.loop-n.n 0) c.begin_at-byte.result c.loop-n.invariant.changed o.is_there (byte_there c.loop-n.row c.loop-n.n inside) its);
      counted = λ h. k.counted (c.loop-n.invariant.counted h);
      parts = k.parted c.loop-n.invariant.parts;
    }

pub returns-clause-pages : goal.returns-clause-pages
returns-clause-pages c =
    let e : c.loop-n.n ≡ length c.args.row.now = omega (arith, c.loop-n-test.false, c.requires.takings) in
    subst (λ n. RowChanges (IsBegun c.args.takings.now) c.args.first 0 n c.args.pages.now c.loop-n.pages c.args.row.now c.loop-n.row) e c.loop-n.invariant.changed
