use Rattle.merge_core.proofs.Staying.{gives_up, one_moves, moved_twice}
use Rattle.std.proofs.Common.{◌≡◌, ap, sym, ◌∙◌, List, length, true, false, refl, None}
use Rattle.page_model.specs.Pages.{Guest, with_slot, Unmapped, Private, Shared}
use Rattle.page_model.specs.Steps.{stays}
use Rattle.page_model.specs.declared.verdict.Verdict.{Verdict}
use Rattle.page_model.specs.declared.verdict.Verdict.TheVariants as v
use Rattle.page_model.proofs.Places.{again}
use Rattle.merge_core.specs.Pmap.{bytes_in}
use Rattle.merge_core.specs.View.{guests_of, pmap_of}
use Rattle.merge_core.proofs.Arms.{released_last, released_more}
use Rattle.merge_core.proofs.serve.release_shared.Goals as goal

outcome : (v : Verdict) (x y : List Guest) → x ≡ y → stays x v ≡ stays y v
outcome v x y e = ap (λ (z : List Guest). stays z v) e

pub returns-then-count-eq1-clause-step : goal.returns-then-count-eq1-clause-step
returns-then-count-eq1-clause-step g c =
    let held = c.args.held.now in
    let p = rw (c.hash_frame-code.ensures.shown, c.hash_frame-code.ensures.kept.frames) at c.peers_of-count.ensures.peers in
    let e = rw (c.keep.ensures.guests, c.hash_frame-code.ensures.shown, c.hash_frame-code.ensures.kept.frames) at c.unmap.ensures.guests in
    outcome (v.Released true) _ _ (e ∙ again (guests_of held) c.args.page.guest c.args.page.ppn _ _) ∙ sym (released_last (guests_of held) c.args.page.guest c.args.page.ppn c.args.page.salt (bytes_in held.frames c.args.mpn) (sym p ∙ c.if-count-eq1.true))

pub returns-clause-step : goal.returns-clause-step
returns-clause-step g c =
    let held = c.args.held.now in
    let p = rw (c.hash_frame-code.ensures.shown, c.hash_frame-code.ensures.kept.frames) at c.peers_of-count.ensures.peers in
    let e = rw c.hash_frame-code.ensures.shown at c.leave.ensures.guests in
    outcome (v.Released false) _ _ e ∙ sym (released_more (guests_of held) c.args.page.guest c.args.page.ppn c.args.page.salt (bytes_in held.frames c.args.mpn) (λ e. c.if-count-eq1.false (p ∙ e)))

pub returns-then-count-eq1-clause-served : goal.returns-then-count-eq1-clause-served
returns-then-count-eq1-clause-served g c =
    let held = c.args.held.now in
    record {
      whole = c.unmap.ensures.whole;
      total = c.unmap.ensures.total ∙ ap length (c.keep.ensures.frames ∙ c.hash_frame-code.ensures.kept.frames);
      stay =
          rw (c.unmap.ensures.pmap, c.keep.ensures.pmap, c.hash_frame-code.ensures.kept.pmap)
          (gives_up held.frames c.args.page.guest c.args.page.ppn (v.Released true) (pmap_of held)
          (with_slot (with_slot (pmap_of held) c.args.page.guest c.args.page.ppn (Private c.args.mpn None)) c.args.page.guest
          c.args.page.ppn Unmapped) refl
          (moved_twice (pmap_of held) c.args.page.guest c.args.page.ppn c.args.page.salt (Shared c.args.mpn) (Private c.args.mpn None)
          Unmapped c.requires.page));
    }

pub returns-clause-served : goal.returns-clause-served
returns-clause-served g c =
    let held = c.args.held.now in
    record {
      whole = c.leave.ensures.whole;
      total = ap length (c.leave.ensures.frames ∙ c.hash_frame-code.ensures.kept.frames);
      stay =
          rw (c.leave.ensures.pmap, c.hash_frame-code.ensures.kept.pmap)
          (gives_up held.frames c.args.page.guest c.args.page.ppn (v.Released false) (pmap_of held)
          (with_slot (pmap_of held) c.args.page.guest c.args.page.ppn Unmapped) refl
          (one_moves (pmap_of held) c.args.page.guest c.args.page.ppn c.args.page.salt (Shared c.args.mpn) Unmapped c.requires.page));
    }
