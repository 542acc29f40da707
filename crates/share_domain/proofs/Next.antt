-- The next slot of a client, after its first one was released.
use Rattle.std.proofs.Common.{◌≡◌, ℕ, zero, suc, ◌+◌, List, [], ◌∷◌, drop, Option, Some, None, ap, sym, ◌∙◌, arith}
use Rattle.std.specs.Prelude.{slice_set, position}
use Rattle.lent_slots.specs.Slots.{MachineView, is_of, released}
use Rattle.share_domain.specs.declared.holding.Slot.{Slot}
use Rattle.share_domain.specs.Domains.{DomainView, machine_at, with_machines, with_released}
use Rattle.share_domain.specs.Leaving.{or_later, slot_from, first_slot}

abbrev machine_in : Option Slot → ℕ
machine_in None = 0
machine_in (Some slot) = slot.machine

slot_some : {s : Slot} → None ≡ Some s → ⊥
slot_some h = cc

-- no machine before that of the first slot has a slot of the client: the next one is sought from there on, whatever became of it
slot_later : (client k j : ℕ) (machines : List MachineView) (s : Slot) (x : MachineView) → slot_from client k machines ≡ Some s → s.machine ≡ k + j
    → slot_from client k (slice_set machines j x) ≡ slot_from client (k + j) (drop j (slice_set machines j x))
slot_later client k j [] s x e at = absurd (slot_some e)
slot_later client k zero (m ∷ machines) s x e at = ap (λ (n : ℕ). slot_from client n (x ∷ machines)) (omega arith)
slot_later client k (suc j) (m ∷ machines) s x e at =
    go (position (is_of client) m.slots) (λ later. slot_later client (k + 1) j machines s x later (omega (arith, at))) e where
      go : (o : Option ℕ) → (slot_from client (k + 1) machines ≡ Some s → slot_from client (k + 1) (slice_set machines j x) ≡ slot_from client (k + 1 + j) (drop j (slice_set machines j x)))
          → or_later k o (slot_from client (k + 1) machines) ≡ Some s
          → or_later k o (slot_from client (k + 1) (slice_set machines j x)) ≡ slot_from client (k + suc j) (drop j (slice_set machines j x))
      go (Some q) rest same = let here : k ≡ s.machine = ap machine_in same in absurd (omega (arith, here, at))
      go None rest later = rest later ∙ ap (λ (n : ℕ). slot_from client n (drop j (slice_set machines j x))) (omega arith)

-- the first slot is released, and the next one is the first
pub first_next : (client : ℕ) (machines : List MachineView) (slot : Slot) → first_slot client machines ≡ Some slot
    → first_slot client (with_released slot machines) ≡ slot_from client slot.machine (drop slot.machine (with_released slot machines))
first_next client machines slot e =
    slot_later client 0 slot.machine machines slot (released slot.ppn (machine_at machines slot.machine)) e (omega arith)
    ∙ ap (λ (n : ℕ). slot_from client n (drop slot.machine (with_released slot machines))) (omega arith)

-- what is found after the first slot was released
pub next_is_first : (client : ℕ) (old mid new : DomainView) (slot : Slot) (found : Option Slot) → first_slot client old.machines ≡ Some slot
    → mid ≡ with_machines old (with_released slot old.machines) → new ≡ mid → found ≡ slot_from client slot.machine (drop slot.machine mid.machines) → found ≡ first_slot client new.machines
next_is_first client old mid new slot found e now same next =
    let machines : mid.machines ≡ with_released slot old.machines = ap (λ (d : DomainView). d.machines) now in
    next ∙ ap (λ (l : List MachineView). slot_from client slot.machine (drop slot.machine l)) machines ∙ sym (first_next client old.machines slot e)
    ∙ sym (ap (first_slot client) machines) ∙ sym (ap (λ (d : DomainView). first_slot client d.machines) same)
