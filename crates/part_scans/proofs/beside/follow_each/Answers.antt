use Rattle.std.proofs.Common.{◌≡◌, ◌∙◌, ◌+◌, ◌<◌, ℕ, Bool, inr, length, ap, sym, subst, refl, arith}
use Rattle.std.specs.Prelude.{◌||◌, slice_index_or, slice_set}
use Rattle.page_holds.proofs.RowsKept.{Keeps, byte_there, row_more_first, row_none}
use Rattle.page_holds.specs.Orders.{facts_there}
use Rattle.page_holds.specs.Rows.{PageChanges, RowChanges}
use Rattle.page_looks.specs.declared.finds.step.Memory.{Memory}
use Rattle.part_scans.proofs.Kept.{changed_before_next, same_changed, taken_track, tracks_keep}
use Rattle.part_scans.specs.Scans.{Follows, FollowsAt, changed_at, changed_before, follows, is_beside}
use Rattle.part_scans.specs.Seen.{seen_in}
use Rattle.window_pages.specs.declared.counts.PartCounts.{PartCounts}
use Rattle.window_pages.specs.declared.facts.WindowFacts.{WindowFacts}
use Rattle.window_pages.specs.declared.page.WindowPage.{WindowPage}
use Rattle.part_scans.proofs.beside.follow_each.Goals as goal

pub loop-n-init : goal.loop-n-init
loop-n-init c = record {
  changed = row_none (FollowsAt c.args.scan.now c.args.table.now c.args.pins.now c.args.first c.args.memory.now c.args.row.now) c.args.first 0 c.args.pages.now c.args.row.now;
  counted = λ h. h;
  parts = c.requires.parts;
  before = refl;
}

pub loop-n-preserved : goal.loop-n-preserved
loop-n-preserved c =
    let place : ℕ = c.args.first + c.loop-n.n in
    let byte : ℕ = slice_index_or c.loop-n.row c.loop-n.n 0 in
    let facts : WindowFacts = facts_there c.args.table.now c.args.pins.now place in
    let does : Memory → Bool → WindowPage → WindowPage → PartCounts → PartCounts → Type 0 = λ m b. Follows c.args.scan.now facts m b place byte c.follow_at-after.result in
    let o : PageChanges (does c.memory_by.result c.is_beside-beside.result) c.args.lead place c.loop-n.pages c.follow_at-after.new.pages c.loop-n.parts c.follow_at-after.new.parts = c.follow_at-after.ensures in
    let k : Keeps c.args.lead c.loop-n.pages c.follow_at-after.new.pages c.loop-n.parts c.follow_at-after.new.parts =
    tracks_keep (does c.memory_by.result c.is_beside-beside.result) c.args.lead place c.loop-n.pages c.follow_at-after.new.pages c.loop-n.parts c.follow_at-after.new.parts o
    (taken_track c.args.scan.now facts c.memory_by.result place (follows c.args.scan.now c.memory_by.result (seen_in byte).taken c.is_beside-beside.result place o.before) byte c.follow_at-after.result o.before o.after o.part o.part_after o.becomes.taken) in
    let inside : c.loop-n.n < length c.loop-n.row = omega (arith, c.loop-n-test.true, c.requires.memory, c.loop-n.invariant.changed.bytes) in
    let behind : changed_at c.loop-n.row (c.loop-n.n + 1) ≡ changed_at c.args.row.now (c.loop-n.n + 1) =
    same_changed c.loop-n.row c.args.row.now (c.loop-n.n + 1) (c.loop-n.invariant.changed.other (c.loop-n.n + 1) (inr (omega arith))) in
    let own : changed_at c.loop-n.row c.loop-n.n ≡ changed_at c.args.row.now c.loop-n.n =
    same_changed c.loop-n.row c.args.row.now c.loop-n.n (c.loop-n.invariant.changed.other c.loop-n.n (inr (omega arith))) in
    let beside : c.is_beside-beside.result ≡ is_beside c.args.row.now c.loop-n.n =
    c.is_beside-beside.ensures ∙ (ap (λ b. b || changed_at c.loop-n.row (c.loop-n.n + 1)) c.loop-n.invariant.before ∙ ap (λ b. changed_before c.args.row.now c.loop-n.n || b) behind) in
    let its : FollowsAt c.args.scan.now c.args.table.now c.args.pins.now c.args.first c.args.memory.now c.args.row.now c.loop-n.n byte c.follow_at-after.result o.before o.after = record {
      part = o.part;
      part_after = o.part_after;
      becomes = subst (λ m. does m (is_beside c.args.row.now c.loop-n.n) o.before o.after o.part o.part_after) c.memory_by.ensures (subst (λ b. does c.memory_by.result b o.before o.after o.part o.part_after) beside o.becomes);
    } in
    record {
      changed =
          subst (λ v. RowChanges (FollowsAt c.args.scan.now c.args.table.now c.args.pins.now c.args.first c.args.memory.now c.args.row.now) c.args.first 0 (c.loop-n.n + 1) c.args.pages.now v c.args.row.now (slice_set c.loop-n.row c.loop-n.n c.follow_at-after.result)) (sym o.changed)
          (row_more_first (FollowsAt c.args.scan.now c.args.table.now c.args.pins.now c.args.first c.args.memory.now c.args.row.now) c.args.first c.loop-n.n c.args.pages.now c.loop-n.pages c.args.row.now c.loop-n.row o.before o.after byte c.follow_at-after.result c.loop-n.invariant.changed o.is_there (byte_there c.loop-n.row c.loop-n.n inside) its);
      counted = λ h. k.counted (c.loop-n.invariant.counted h);
      parts = k.parted c.loop-n.invariant.parts;
      before = ap (λ s. s.changed) c.seen_in-before.ensures ∙ (own ∙ changed_before_next c.args.row.now c.loop-n.n);
    }

pub returns-clause-pages : goal.returns-clause-pages
returns-clause-pages c =
    let e : c.loop-n.n ≡ length c.args.row.now = omega (arith, c.loop-n-test.false, c.requires.memory) in
    subst (λ n. RowChanges (FollowsAt c.args.scan.now c.args.table.now c.args.pins.now c.args.first c.args.memory.now c.args.row.now) c.args.first 0 n c.args.pages.now c.loop-n.pages c.args.row.now c.loop-n.row) e c.loop-n.invariant.changed
