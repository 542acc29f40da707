use Rattle.std.proofs.Common.{◌≡◌, ◌∙◌, ◌+◌, ◌<◌, ℕ, length, ap, sym, subst, arith}
use Rattle.std.specs.Prelude.{◌||◌, slice_index_or, slice_set}
use Rattle.page_holds.proofs.RowsKept.{Keeps, byte_there, row_more_first, row_none}
use Rattle.page_holds.specs.Orders.{facts_there}
use Rattle.page_holds.specs.Rows.{PageChanges, RowChanges}
use Rattle.page_looks.specs.Steps.{has_memory}
use Rattle.page_looks.specs.declared.finds.step.Memory.{Memory}
use Rattle.part_scans.proofs.Kept.{taken_track, tracks_keep}
use Rattle.part_scans.specs.Scans.{Begins, BeginsAt, takes, turn_at}
use Rattle.window_pages.specs.declared.counts.PartCounts.{PartCounts}
use Rattle.window_pages.specs.declared.facts.WindowFacts.{WindowFacts}
use Rattle.window_pages.specs.declared.page.WindowPage.{WindowPage}
use Rattle.part_scans.proofs.taking.begin_each.Goals as goal

pub loop-n-init : goal.loop-n-init
loop-n-init c = record {
  changed = row_none (BeginsAt c.args.scan.now c.args.table.now c.args.pins.now c.args.first c.args.all c.args.memory.now) c.args.first 0 c.args.pages.now c.args.row.now;
  counted = λ h. h;
  parts = c.requires.parts;
  turn = c.turn_at-is_turn.ensures ∙ ap (λ p. turn_at c.args.scan.now p) (omega arith);
}

pub loop-n-preserved : goal.loop-n-preserved
loop-n-preserved c =
    let place : ℕ = c.args.first + c.loop-n.n in
    let facts : WindowFacts = facts_there c.args.table.now c.args.pins.now place in
    let does : Memory → WindowPage → WindowPage → PartCounts → PartCounts → Type 0 = λ m. Begins c.args.scan.now facts m (c.args.all || has_memory m) place c.begin_at-byte.result in
    let o : PageChanges (does c.memory_by.result) c.args.lead place c.loop-n.pages c.begin_at-byte.new.pages c.loop-n.parts c.begin_at-byte.new.parts = c.begin_at-byte.ensures in
    let k : Keeps c.args.lead c.loop-n.pages c.begin_at-byte.new.pages c.loop-n.parts c.begin_at-byte.new.parts =
    tracks_keep (does c.memory_by.result) c.args.lead place c.loop-n.pages c.begin_at-byte.new.pages c.loop-n.parts c.begin_at-byte.new.parts o
    (taken_track c.args.scan.now facts c.memory_by.result place (takes c.args.scan.now (c.args.all || has_memory c.memory_by.result) place o.before) 0 c.begin_at-byte.result o.before o.after o.part o.part_after o.becomes.taken) in
    let inside : c.loop-n.n < length c.loop-n.row = omega (arith, c.loop-n-test.true, c.requires.memory, c.loop-n.invariant.changed.bytes) in
    let its : BeginsAt c.args.scan.now c.args.table.now c.args.pins.now c.args.first c.args.all c.args.memory.now c.loop-n.n (slice_index_or c.loop-n.row c.loop-n.n 0) c.begin_at-byte.result o.before o.after = record {
      part = o.part;
      part_after = o.part_after;
      becomes = subst (λ m. does m o.before o.after o.part o.part_after) c.memory_by.ensures o.becomes;
    } in
    record {
      changed =
          subst (λ v. RowChanges (BeginsAt c.args.scan.now c.args.table.now c.args.pins.now c.args.first c.args.all c.args.memory.now) c.args.first 0 (c.loop-n.n + 1) c.args.pages.now v c.args.row.now (slice_set c.loop-n.row c.loop-n.n c.begin_at-byte.result)) (sym o.changed)
          (row_more_first (BeginsAt c.args.scan.now c.args.table.now c.args.pins.now c.args.first c.args.all c.args.memory.now) c.args.first c.loop-n.n c.args.pages.now c.loop-n.pages c.args.row.now c.loop-n.row o.before o.after (slice_index_or c.loop-n.row c.loop-n.n 0) c.begin_at-byte.result c.loop-n.invariant.changed o.is_there (byte_there c.loop-n.row c.loop-n.n inside) its);
      counted = λ h. k.counted (c.loop-n.invariant.counted h);
      parts = k.parted c.loop-n.invariant.parts;
      turn = c.turn_after-is_turn.ensures ∙ ap (λ p. turn_at c.args.scan.now p) (omega arith);
    }

pub returns-clause-pages : goal.returns-clause-pages
returns-clause-pages c =
    let e : c.loop-n.n ≡ length c.args.row.now = omega (arith, c.loop-n-test.false, c.requires.memory) in
    subst (λ n. RowChanges (BeginsAt c.args.scan.now c.args.table.now c.args.pins.now c.args.first c.args.all c.args.memory.now) c.args.first 0 n c.args.pages.now c.loop-n.pages c.args.row.now c.loop-n.row) e c.loop-n.invariant.changed
