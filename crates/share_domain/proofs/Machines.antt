-- A frame that a slot's release frees is one of its machine's.
use Rattle.std.proofs.Common.{◌≡◌, ℕ, ◌<◌, ◌≤◌, ◌==◌, Bool, true, false, cond, length, Option, Some, None, refl, ap, sym, subst, ◌∙◌, ◌⊎◌, inl, inr, arith}
use Rattle.std.specs.Prelude.{slice_set, IfSome}
use Rattle.std.proofs.lemmas.Bool.{cases_eq}
use Rattle.machine_frames.proofs.Used.{taken_within}
use Rattle.lent_slots.specs.declared.holding.Holding.{Holding}
use Rattle.lent_slots.specs.Slots.{MachineView, holding, sharers, freed}
use Rattle.lent_slots.specs.Totals.{FramesOfSlots}
use Rattle.lent_slots.proofs.SlotLists.{unshared}

some_shared : (v : MachineView) (ppn : ℕ) (h : Holding) → holding v.slots ppn ≡ Some h → ((sharers h.frame v.slots ≡ 0) ⊎ (sharers h.frame v.slots ≡ 0 → ⊥)) → 1 ≤ sharers h.frame v.slots
some_shared v ppn h e (inl none) = absurd (unshared h.frame v.slots ppn h none e refl)
some_shared v ppn h e (inr some) = omega (arith, some)

free_within : (b : Bool) (mpn total : ℕ) → mpn < total → IfSome (cond b (Some mpn) None) (λ m. m < total)
free_within true mpn total h = h
free_within false mpn total h = tt

freed_within : (v : MachineView) (ppn : ℕ) → FramesOfSlots v → IfSome (freed ppn v) (λ mpn. mpn < length v.frames)
freed_within v ppn f = go (holding v.slots ppn) refl where
  go : (o : Option Holding) → holding v.slots ppn ≡ o → IfSome (freed ppn v) (λ mpn. mpn < length v.frames)
  go None e = rw e tt
  go (Some h) e =
      let shared : 1 ≤ sharers h.frame v.slots = some_shared v ppn h e (cases_eq (sharers h.frame v.slots) 0) in
      rw e (free_within (sharers h.frame (slice_set v.slots ppn None) == 0) h.frame (length v.frames) (taken_within v.frames h.frame ((f h.frame).1 shared)))

pub returned_within : (ppn : ℕ) (v a b : MachineView) (r : Option ℕ) → FramesOfSlots a → a ≡ v → b ≡ v → r ≡ freed ppn b → IfSome r (λ mpn. mpn < length v.frames)
returned_within ppn v a b r f ea eb e =
    subst (λ (o : Option ℕ). IfSome o (λ mpn. mpn < length v.frames)) (sym (e ∙ ap (λ (m : MachineView). freed ppn m) eb))
    (freed_within v ppn (subst (λ (m : MachineView). FramesOfSlots m) ea f))
