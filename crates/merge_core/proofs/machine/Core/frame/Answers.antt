use Rattle.std.proofs.Common.{◌≡◌, ℕ, Some, refl, ap, sym, ◌∙◌}
use Rattle.page_model.specs.Pages.{SlotOf, Private, Shared, page_at}
use Rattle.merge_core.specs.View.{pmap_of, slot_of}
use Rattle.merge_core.specs.declared.held.PageEntry.{PageEntry}
use Rattle.merge_core.proofs.Texts.{frame_text}
use Rattle.merge_core.proofs.machine.Core.frame.Goals as goal

pub returns-in-Some-default-Private-clause-bytes : goal.returns-in-Some-default-Private-clause-bytes
returns-in-Some-default-Private-clause-bytes g c =
    let held = c.self.inside.held in
    let x = c.in-Some-default-Private in
    let at : page_at (pmap_of held) c.args.guest c.args.ppn ≡ Some (x.field-0-0, Private x.mpn x.field-0-1-1) = sym x.ensures.entry ∙ ap (λ (y : PageEntry). let p : ℕ × SlotOf ℕ = (x.field-0-0, slot_of y) in Some p) x.field-0-1-is in
    rw (← c.self.view_is) (frame_text (pmap_of held) held.frames c.args.guest c.args.ppn x.field-0-0 x.mpn (Private x.mpn x.field-0-1-1) c.self.invariant.ties.placed at refl)

pub returns-in-Some-default-Shared-clause-bytes : goal.returns-in-Some-default-Shared-clause-bytes
returns-in-Some-default-Shared-clause-bytes g c =
    let held = c.self.inside.held in
    let x = c.in-Some-default-Shared in
    let at : page_at (pmap_of held) c.args.guest c.args.ppn ≡ Some (x.field-0-0, Shared x.mpn) = sym x.ensures.entry ∙ ap (λ (y : PageEntry). let p : ℕ × SlotOf ℕ = (x.field-0-0, slot_of y) in Some p) x.field-0-1-is in
    rw (← c.self.view_is) (frame_text (pmap_of held) held.frames c.args.guest c.args.ppn x.field-0-0 x.mpn (Shared x.mpn) c.self.invariant.ties.placed at refl)
