-- The pages of the model are those of the core.
use Rattle.std.proofs.Common.{◌≡◌, ℕ, Option, Some, None, refl, ap, sym, ◌∙◌}
use Rattle.std.specs.Prelude.{option_map}
use Rattle.page_model.specs.Pages.{SlotOf, Slot, page_at}
use Rattle.page_model.proofs.Places.{same_page}
use Rattle.machine_frames.specs.FrameMap.{FrameMap}
use Rattle.merge_core.specs.Pmap.{Pmap, slot_in, guests_in}
use Rattle.merge_core.proofs.Views.{page_in}

-- a page of the model is a page of the core
pub record Named (pmap : Pmap) (frames : FrameMap) (a b salt : ℕ) (x : Slot) : Type 0 where
  pub slot : SlotOf ℕ
  pub at : page_at pmap a b ≡ Some (salt, slot)
  pub is : slot_in frames slot ≡ x

named_by : (pmap : Pmap) (frames : FrameMap) (a b salt : ℕ) (x : Slot) (o : Option (ℕ × SlotOf ℕ)) → page_at pmap a b ≡ o → option_map (λ (p : ℕ × SlotOf ℕ). let q : ℕ × Slot = (p.0, slot_in frames p.1) in q) o ≡ Some (salt, x) → Named pmap frames a b salt x
named_by pmap frames a b salt x None at e = absurd (no e) where
  no : {p : ℕ × Slot} → None ≡ Some p → ⊥
  no e = cc
named_by pmap frames a b salt x (Some (t, slot)) at e =
    let o : Option (ℕ × Slot) = Some (t, slot_in frames slot) in
    let same = same_page o t salt (slot_in frames slot) x refl e in
    record { slot = slot; at = at ∙ ap (λ (y : ℕ). let p : ℕ × SlotOf ℕ = (y, slot) in Some p) same.0; is = same.1 }

pub named : (pmap : Pmap) (frames : FrameMap) (a b salt : ℕ) (x : Slot) → page_at (guests_in frames pmap) a b ≡ Some (salt, x) → Named pmap frames a b salt x
named pmap frames a b salt x at = named_by pmap frames a b salt x (page_at pmap a b) refl (sym (page_in frames pmap a b) ∙ at)
