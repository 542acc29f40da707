-- A client's slot that is released is free, and no other slot changes.
use Rattle.std.proofs.Common.{◌≡◌, ◌≢◌, ◌∙◌, ℕ, ◌<◌, ◌≤◌, ◌⊎◌, inl, inr, Bool, true, false, cond, List, length, Option, Some, None, refl, ap, sym, subst}
use Rattle.std.proofs.lemmas.Bool.{cases_eq, cases_lt}
use Rattle.std.proofs.lemmas.List.{get_or-set_same, get_or-set_other, set_past, get_or_past}
use Rattle.lent_slots.specs.declared.holding.Holding.{Holding}
use Rattle.lent_slots.specs.Slots.{MachineView, holding, is_of, released_by, released}
use Rattle.lent_slots.proofs.SlotLists.{held_within, set_same, set_other}
use Rattle.host_sessions.proofs.Gained.{released_held}
use Rattle.share_domain.specs.declared.holding.Slot.{Slot}
use Rattle.share_domain.specs.Domains.{DomainView, with_machines, with_released, machine_at, no_machine, held_in, after_release}

abbrev slot_at : ℕ → ℕ → Slot
slot_at machine ppn = record { machine = machine; ppn = ppn }

same_slot : (a b : Slot) → a.machine ≡ b.machine → a.ppn ≡ b.ppn → a ≡ b
same_slot a b e f = ap (λ (m : ℕ). slot_at m a.ppn) e ∙ ap (λ (k : ℕ). slot_at b.machine k) f

released_other : (v : MachineView) (ppn other : ℕ) (held : Option Holding) → other ≢ ppn → holding (released_by v ppn held).slots other ≡ holding v.slots other
released_other v ppn other None ne = refl
released_other v ppn other (Some h) ne = set_other v.slots ppn other None ne

-- another slot stays
pub other_held : (d : DomainView) (client : ℕ) (slot s : Slot) → (s ≡ slot → ⊥) → held_in (after_release client slot d).machines s ≡ held_in d.machines s
other_held d client slot s ne = pick (is_of client (held_in d.machines slot)) where
  there : (cases : (s.machine ≡ slot.machine) ⊎ (s.machine ≡ slot.machine → ⊥)) → held_in (with_released slot d.machines) s ≡ held_in d.machines s
  there (inr apart) = ap (λ (v : MachineView). holding v.slots s.ppn) (get_or-set_other d.machines slot.machine s.machine (released slot.ppn (machine_at d.machines slot.machine)) no_machine apart)
  there (inl e) = within (cases_lt slot.machine (length d.machines)) where
    within : (slot.machine < length d.machines) ⊎ (length d.machines ≤ slot.machine) → held_in (with_released slot d.machines) s ≡ held_in d.machines s
    within (inr l) = ap (λ (ms : List MachineView). held_in ms s) (set_past d.machines slot.machine (released slot.ppn (machine_at d.machines slot.machine)) l)
    within (inl l) =
        ap (λ (k : ℕ). holding (machine_at (with_released slot d.machines) k).slots s.ppn) e
        ∙ ap (λ (v : MachineView). holding v.slots s.ppn) (get_or-set_same d.machines slot.machine (released slot.ppn (machine_at d.machines slot.machine)) no_machine l)
        ∙ released_other (machine_at d.machines slot.machine) slot.ppn s.ppn (holding (machine_at d.machines slot.machine).slots slot.ppn) (λ f. ne (same_slot s slot e f))
        ∙ ap (λ (k : ℕ). holding (machine_at d.machines k).slots s.ppn) (sym e)

  pick : (b : Bool) → held_in (let x : DomainView = cond b (with_machines d (with_released slot d.machines)) d in x.machines) s ≡ held_in d.machines s
  pick false = refl
  pick true = there (cases_eq s.machine slot.machine)

pub own_held : (d : DomainView) (client : ℕ) (slot : Slot) → is_of client (held_in d.machines slot) ≡ true → held_in (after_release client slot d).machines slot ≡ None
own_held d client slot is =
    ap (λ (b : Bool). held_in (let y : DomainView = cond b (with_machines d (with_released slot d.machines)) d in y.machines) slot) is
    ∙ released_held d.machines client slot is
