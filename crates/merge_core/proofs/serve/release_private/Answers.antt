use Rattle.std.proofs.Common.{refl, ap, length, true, None, ◌∙◌}
use Rattle.page_model.specs.Pages.{Unmapped}
use Rattle.page_model.specs.declared.verdict.Verdict.TheVariants as v
use Rattle.page_model.proofs.Places.{again}
use Rattle.merge_core.specs.View.{pmap_of, guests_of}
use Rattle.merge_core.proofs.Staying.{moved_to, keep_move, gives_up}
use Rattle.merge_core.proofs.serve.release_private.Goals as goal

pub returns-clause-served : goal.returns-clause-served
returns-clause-served g c =
    let held = c.args.held.now in
    let leaves = moved_to _ _ c.args.page.guest c.args.page.ppn c.args.page.salt Unmapped c.unmap.ensures.pmap c.unmap.ensures.page in
    record {
      whole = c.unmap.ensures.whole;
      total = c.unmap.ensures.total ∙ ap length c.clear_hint.ensures.frames;
      stay = gives_up held.frames c.args.page.guest c.args.page.ppn (v.Released true) (pmap_of held) _ refl (keep_move c.args.page.guest c.args.page.ppn None (pmap_of held) _ _ c.clear_hint.ensures.stay leaves);
    }

pub returns-clause-guests : goal.returns-clause-guests
returns-clause-guests g c =
    let held = c.args.held.now in
    (rw c.clear_hint.ensures.guests at c.unmap.ensures.guests) ∙ again (guests_of held) c.args.page.guest c.args.page.ppn _ _
