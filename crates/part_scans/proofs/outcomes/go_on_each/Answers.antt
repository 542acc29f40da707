use Rattle.std.proofs.Common.{◌≡◌, ◌+◌, ◌<◌, ℕ, length, sym, subst, arith}
use Rattle.std.specs.Prelude.{slice_index_or, slice_set}
use Rattle.page_holds.proofs.RowsKept.{Keeps, byte_there, row_more_first, row_none}
use Rattle.page_holds.specs.Rows.{PageChanges, RowChanges}
use Rattle.page_looks.specs.declared.finds.step.FindOutcome.{FindOutcome}
use Rattle.part_scans.proofs.Kept.{goes_track, tracks_keep}
use Rattle.part_scans.specs.Scans.{GoesOn, GoesOnAt, no_outcome}
use Rattle.part_scans.proofs.outcomes.go_on_each.Goals as goal

pub loop-n-init : goal.loop-n-init
loop-n-init c = record {
  changed = row_none (GoesOnAt c.args.scan.now c.args.first c.args.outcomes.now) c.args.first 0 c.args.pages.now c.args.row.now;
  counted = λ h. h;
  parts = c.requires.parts;
}

pub loop-n-preserved : goal.loop-n-preserved
loop-n-preserved c =
    let place : ℕ = c.args.first + c.loop-n.n in
    let byte : ℕ = slice_index_or c.loop-n.row c.loop-n.n 0 in
    let outcome : FindOutcome = slice_index_or c.args.outcomes.now c.loop-n.n no_outcome in
    let o : PageChanges (GoesOn c.args.scan.now outcome place byte c.go_on_at-after.result) c.args.lead place c.loop-n.pages c.go_on_at-after.new.pages c.loop-n.parts c.go_on_at-after.new.parts = c.go_on_at-after.ensures in
    let k : Keeps c.args.lead c.loop-n.pages c.go_on_at-after.new.pages c.loop-n.parts c.go_on_at-after.new.parts =
    tracks_keep (GoesOn c.args.scan.now outcome place byte c.go_on_at-after.result) c.args.lead place c.loop-n.pages c.go_on_at-after.new.pages c.loop-n.parts c.go_on_at-after.new.parts o
    (goes_track c.args.scan.now outcome place byte c.go_on_at-after.result o.before o.after o.part o.part_after o.becomes) in
    let inside : c.loop-n.n < length c.loop-n.row = omega (arith, c.loop-n-test.true, c.requires.outcomes, c.loop-n.invariant.changed.bytes) in
    let its : GoesOnAt c.args.scan.now c.args.first c.args.outcomes.now c.loop-n.n byte c.go_on_at-after.result o.before o.after = record {
      part = o.part;
      part_after = o.part_after;
      becomes = o.becomes;
    } in
    record {
      changed =
          subst (λ v. RowChanges (GoesOnAt c.args.scan.now c.args.first c.args.outcomes.now) c.args.first 0 (c.loop-n.n + 1) c.args.pages.now v c.args.row.now (slice_set c.loop-n.row c.loop-n.n c.go_on_at-after.result)) (sym o.changed)
          (row_more_first (GoesOnAt c.args.scan.now c.args.first c.args.outcomes.now) c.args.first c.loop-n.n c.args.pages.now c.loop-n.pages c.args.row.now c.loop-n.row o.before o.after byte c.go_on_at-after.result c.loop-n.invariant.changed o.is_there (byte_there c.loop-n.row c.loop-n.n inside) its);
      counted = λ h. k.counted (c.loop-n.invariant.counted h);
      parts = k.parted c.loop-n.invariant.parts;
    }

pub returns-clause-pages : goal.returns-clause-pages
returns-clause-pages c =
    let e : c.loop-n.n ≡ length c.args.row.now = omega (arith, c.loop-n-test.false, c.requires.outcomes) in
    subst (λ n. RowChanges (GoesOnAt c.args.scan.now c.args.first c.args.outcomes.now) c.args.first 0 n c.args.pages.now c.loop-n.pages c.args.row.now c.loop-n.row) e c.loop-n.invariant.changed
