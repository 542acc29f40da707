use Rattle.merge_core.proofs.Staying.{all_stay, one_keeps, none_moves, takes_free, moved_twice}
use Rattle.std.proofs.Common.{◌≡◌, ap, sym, ◌∙◌, List, length, refl, None}
use Rattle.page_model.specs.Pages.{Guest, with_slot, Unmapped, Private, Shared}
use Rattle.page_model.specs.Steps.{stays}
use Rattle.page_model.specs.declared.verdict.Verdict.{Verdict}
use Rattle.page_model.specs.declared.verdict.Verdict.TheVariants as v
use Rattle.page_model.proofs.Places.{again}
use Rattle.merge_core.specs.Pmap.{bytes_in}
use Rattle.merge_core.specs.View.{guests_of, pmap_of}
use Rattle.merge_core.proofs.Arms.{stored_taken, stored_full, stored_copied}
use Rattle.merge_core.proofs.serve.store_shared.Goals as goal

outcome : (v : Verdict) (x y : List Guest) → x ≡ y → stays x v ≡ stays y v
outcome v x y e = ap (λ (z : List Guest). stays z v) e

pub returns-then-count-eq1-clause-step : goal.returns-then-count-eq1-clause-step
returns-then-count-eq1-clause-step g c =
    let held = c.args.held.now in
    let p = rw (c.hash_frame-code.ensures.shown, c.hash_frame-code.ensures.kept.frames) at c.peers_of-count.ensures.peers in
    let e = rw (c.keep.ensures.guests, c.keep.ensures.frames, c.hash_frame-code.ensures.shown, c.hash_frame-code.ensures.kept.frames) at c.write.ensures.guests in
    outcome v.Taken _ _ (e ∙ again (guests_of held) c.args.page.guest c.args.page.ppn _ _) ∙ sym (stored_taken (length held.frames) (guests_of held) c.args.page.guest c.args.page.ppn c.args.at c.args.bytes.now c.args.page.salt (bytes_in held.frames c.args.mpn) (sym p ∙ c.if-count-eq1.true))

pub returns-then-is_full-clause-step : goal.returns-then-is_full-clause-step
returns-then-is_full-clause-step g c =
    let held = c.args.held.now in
    let p = rw (c.hash_frame-code.ensures.shown, c.hash_frame-code.ensures.kept.frames) at c.peers_of-count.ensures.peers in
    let full = rw (c.if-is_full.true, c.hash_frame-code.ensures.shown, c.hash_frame-code.ensures.kept.frames) at c.is_full.ensures.full in
    outcome v.NoFrame _ _ c.hash_frame-code.ensures.shown ∙ sym (stored_full (length held.frames) (guests_of held) c.args.page.guest c.args.page.ppn c.args.at c.args.bytes.now c.args.page.salt (bytes_in held.frames c.args.mpn) (λ e. c.if-count-eq1.false (p ∙ e)) (sym full))

pub returns-clause-step : goal.returns-clause-step
returns-clause-step g c =
    let held = c.args.held.now in
    let p = rw (c.hash_frame-code.ensures.shown, c.hash_frame-code.ensures.kept.frames) at c.peers_of-count.ensures.peers in
    let full = rw (c.if-is_full.false, c.hash_frame-code.ensures.shown, c.hash_frame-code.ensures.kept.frames) at c.is_full.ensures.full in
    let e = rw (c.map_copy-copy.ensures.guests, c.map_copy-copy.ensures.bytes, c.leave.ensures.guests, c.leave.ensures.frames, c.hash_frame-code.ensures.shown, c.hash_frame-code.ensures.kept.frames) at c.write-2.ensures.guests in
    outcome v.Copied _ _ (e
    ∙ again (with_slot (guests_of held) c.args.page.guest c.args.page.ppn Unmapped) c.args.page.guest c.args.page.ppn _ _
    ∙ again (guests_of held) c.args.page.guest c.args.page.ppn _ _)
    ∙ sym (stored_copied (length held.frames) (guests_of held) c.args.page.guest c.args.page.ppn c.args.at c.args.bytes.now
    c.args.page.salt (bytes_in held.frames c.args.mpn) (λ e. c.if-count-eq1.false (p ∙ e)) (sym full))

pub returns-then-count-eq1-clause-served : goal.returns-then-count-eq1-clause-served
returns-then-count-eq1-clause-served g c =
    let held = c.args.held.now in
    record {
      whole = c.write.ensures.whole;
      total = c.write.ensures.total ∙ ap length (c.keep.ensures.frames ∙ c.hash_frame-code.ensures.kept.frames);
      stay =
          rw (c.write.ensures.pmap, c.keep.ensures.pmap, c.hash_frame-code.ensures.kept.pmap)
          (all_stay held.frames c.args.page.guest c.args.page.ppn v.Taken (pmap_of held)
          (with_slot (pmap_of held) c.args.page.guest c.args.page.ppn (Private c.args.mpn None)) refl
          (one_keeps (pmap_of held) c.args.page.guest c.args.page.ppn c.args.page.salt (Shared c.args.mpn) (Private c.args.mpn None)
          c.requires.page refl));
    }

pub returns-then-is_full-clause-served : goal.returns-then-is_full-clause-served
returns-then-is_full-clause-served g c =
    let held = c.args.held.now in
    record {
      whole = c.hash_frame-code.ensures.kept.whole;
      total = ap length c.hash_frame-code.ensures.kept.frames;
      stay = rw c.hash_frame-code.ensures.kept.pmap (none_moves held.frames c.args.page.guest c.args.page.ppn v.NoFrame (pmap_of held) refl);
    }

pub returns-clause-served : goal.returns-clause-served
returns-clause-served g c =
    let held = c.args.held.now in
    let free = rw (c.leave.ensures.frames, c.hash_frame-code.ensures.kept.frames) at c.map_copy-copy.ensures.free in
    record {
      whole = c.write-2.ensures.whole;
      total = c.write-2.ensures.total ∙ c.map_copy-copy.ensures.total ∙ ap length (c.leave.ensures.frames ∙ c.hash_frame-code.ensures.kept.frames);
      stay =
          rw (c.write-2.ensures.pmap, c.map_copy-copy.ensures.pmap, c.leave.ensures.pmap, c.hash_frame-code.ensures.kept.pmap)
          (takes_free held.frames c.args.page.guest c.args.page.ppn c.map_copy-copy.result v.Copied (pmap_of held)
          (with_slot (with_slot (pmap_of held) c.args.page.guest c.args.page.ppn Unmapped) c.args.page.guest c.args.page.ppn
          (Private c.map_copy-copy.result None)) refl free
          (moved_twice (pmap_of held) c.args.page.guest c.args.page.ppn c.args.page.salt (Shared c.args.mpn) Unmapped
          (Private c.map_copy-copy.result None) c.requires.page));
    }
