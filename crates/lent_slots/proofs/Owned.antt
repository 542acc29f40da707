-- The frames in use are those that slots have.
use Rattle.std.proofs.Common.{◌≡◌, ℕ, ◌≤◌, List, Option, Some, None, refl, ap, sym, ◌∙◌, ◌⊎◌, inl, inr, arith}
use Rattle.std.specs.Option.{option_map}
use Rattle.std.proofs.lemmas.Bool.{cases_eq}
use Rattle.std.proofs.lemmas.Option.{same_Some, none-some}
use Rattle.machine_frames.specs.FrameMap.{IsTaken}
use Rattle.merge_core.specs.Shown.{Shown, FramesOfPages}
use Rattle.merge_core.specs.Stays.{frame_at}
use Rattle.merge_core.proofs.Staying.{frame_is}
use Rattle.lent_slots.specs.declared.holding.Holding.{Holding}
use Rattle.lent_slots.specs.Fits.{Fits}
use Rattle.lent_slots.specs.Slots.{holding, sharers}
use Rattle.lent_slots.proofs.SlotLists.{unshared, some_sharer}
use Rattle.lent_slots.proofs.Moves.{taken_at, only_guest}

owned_by : (slots : List (Option Holding)) (n m : ℕ) (x : Option Holding) → holding slots n ≡ x → option_map (λ (y : Holding). y.frame) x ≡ Some m → sharers m slots ≡ 0 → ⊥
owned_by slots n m None e f none = none-some m f
owned_by slots n m (Some y) e f none = unshared m slots n y none e (same_Some y.frame m f)

pub taken_shared : (c : Shown) (slots : List (Option Holding)) (m : ℕ) → Fits slots c → FramesOfPages c → IsTaken c.frames m → 1 ≤ sharers m slots
taken_shared c slots m fits whole taken =
    let o = whole.owned m taken in
    let first : o.guest ≡ 0 = only_guest c o.guest o.ppn (o.salt, o.slot) fits.one o.at in
    let has : frame_at c.pmap 0 o.ppn ≡ Some m = ap (λ (i : ℕ). frame_at c.pmap i o.ppn) (sym first) ∙ frame_is c.pmap o.guest o.ppn o.salt o.slot o.at ∙ o.frame in
    pick (cases_eq (sharers m slots) 0) (owned_by slots o.ppn m (holding slots o.ppn) refl (sym (fits.frames o.ppn) ∙ has)) where
      pick : ((sharers m slots ≡ 0) ⊎ (sharers m slots ≡ 0 → ⊥)) → (sharers m slots ≡ 0 → ⊥) → 1 ≤ sharers m slots
      pick (inl e) n = absurd (n e)
      pick (inr ne) n = omega (arith, ne)

pub shared_taken : (c : Shown) (slots : List (Option Holding)) (m : ℕ) → Fits slots c → FramesOfPages c → 1 ≤ sharers m slots → IsTaken c.frames m
shared_taken c slots m fits whole some =
    let s = some_sharer m slots (λ e. absurd (omega arith)) in
    taken_at c 0 s.ppn m whole (fits.frames s.ppn ∙ ap (option_map (λ (y : Holding). y.frame)) s.at ∙ ap (λ (k : ℕ). Some k) s.frame)
