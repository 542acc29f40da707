-- The bytes of a domain's slots stay as others are lent and released.
use Rattle.std.proofs.Common.{◌≡◌, ℕ, zero, suc, ◌<◌, ◌≤◌, Bool, true, false, cond, List, ◌∷◌, length, Option, Some, None, ap, sym, subst, ◌∙◌, ◌⊎◌, inl, inr}
use Rattle.std.specs.Prelude.{slice_set}
use Rattle.std.proofs.lemmas.Bool.{cases_eq, cases_lt}
use Rattle.std.proofs.lemmas.List.{get_or-set_same, get_or-set_other, set_past}
use Rattle.machine_frames.specs.FrameMap.{frame}
use Rattle.lent_slots.specs.declared.holding.Holding.{Holding}
use Rattle.lent_slots.specs.Slots.{MachineView, is_of, released}
use Rattle.lent_slots.specs.Bytes.{BytesStayIn}
use Rattle.lent_slots.proofs.Bytes.{Keeps, keeps_same, keeps_released}
use Rattle.share_domain.specs.declared.holding.Slot.{Slot}
use Rattle.share_domain.specs.Domains.{DomainView, with_machines, with_released, freed_in, machine_at, no_machine, held_in, after_release}
use Rattle.share_domain.specs.Leaving.{Leaves, at_first, first_slot, left_by}
use Rattle.share_domain.specs.Numbers.{frame_number}
use Rattle.share_domain.specs.Bytes.{BytesStay}

-- each machine keeps its slots' bytes
pub record AllKeep (old new : List MachineView) : Type 0 where
  pub each : (k : ℕ) → Keeps (machine_at old k) (machine_at new k)

all_same : (machines : List MachineView) → AllKeep machines machines
all_same machines = record { each = λ k. keeps_same (machine_at machines k) }

further : (a b c : List MachineView) → AllKeep a b → AllKeep b c → AllKeep a c
further a b c f g = record {
  each = λ k. record {
    was = λ ppn h e. (f.each k).was ppn h ((g.each k).was ppn h e);
    bytes = λ ppn h e. (g.each k).bytes ppn h e ∙ (f.each k).bytes ppn h ((g.each k).was ppn h e);
  };
}

one_changes : (machines : List MachineView) (m : ℕ) (new : MachineView) → Keeps (machine_at machines m) new → AllKeep machines (slice_set machines m new)
one_changes machines m new one = pick (cases_lt m (length machines)) where
  pick : ((m < length machines) ⊎ (length machines ≤ m)) → AllKeep machines (slice_set machines m new)
  pick (inr l) = subst (λ (x : List MachineView). AllKeep machines x) (sym (set_past machines m new l)) (all_same machines)
  pick (inl l) = record { each = λ k. at k (cases_eq k m) } where
    at : (k : ℕ) → ((k ≡ m) ⊎ (k ≡ m → ⊥)) → Keeps (machine_at machines k) (machine_at (slice_set machines m new) k)
    at k (inl e) =
        subst (λ i. Keeps (machine_at machines i) (machine_at (slice_set machines m new) i)) (sym e)
        (subst (λ (v : MachineView). Keeps (machine_at machines m) v) (sym (get_or-set_same machines m new no_machine l)) one)
    at k (inr ne) = subst (λ (v : MachineView). Keeps (machine_at machines k) v) (sym (get_or-set_other machines m k new no_machine ne)) (keeps_same (machine_at machines k))

slot_released : (slot : Slot) (machines : List MachineView) → AllKeep machines (with_released slot machines)
slot_released slot machines = one_changes machines slot.machine (released slot.ppn (machine_at machines slot.machine)) (keeps_released slot.ppn (machine_at machines slot.machine))

bytes_kept : (old new : DomainView) → AllKeep old.machines new.machines → BytesStay old new
bytes_kept old new k = record { stay = λ slot h was now. (k.each slot.machine).bytes slot.ppn h now }

-- a slot is released
pub bytes_given_up : (slot : Slot) (old new : DomainView) → new ≡ with_machines old (with_released slot old.machines) → BytesStay old new
bytes_given_up slot old new e =
    subst (λ (d : DomainView). BytesStay old d) (sym e) (bytes_kept old (with_machines old (with_released slot old.machines)) (slot_released slot old.machines))

-- a release, of the client's slot or of another one
pub bytes_by_release : (client : ℕ) (slot : Slot) (old new : DomainView) → new ≡ after_release client slot old → BytesStay old new
bytes_by_release client slot old new e =
    subst (λ (d : DomainView). BytesStay old d) (sym e) (pick (is_of client (held_in old.machines slot))) where
      pick : (b : Bool) → BytesStay old (cond b (with_machines old (with_released slot old.machines)) old)
      pick true = bytes_kept old (with_machines old (with_released slot old.machines)) (slot_released slot old.machines)
      pick false = bytes_kept old old (all_same old.machines)

-- a leave
left_keep : (frames client n : ℕ) (machines : List MachineView) → AllKeep machines (left_by frames client n machines).machines
unfolding left_by
left_keep frames client zero machines = all_same machines
left_keep frames client (suc n) machines =
    elim (first_slot client machines) as (λ (o : Option Slot). AllKeep machines (at_first o machines
    (λ slot. let rest = left_by frames client n (with_released slot machines) in record { numbers = frame_number (freed_in frames slot machines) ∷ rest.numbers; machines = rest.machines })).machines) [
      | None ↦ all_same machines
      | Some slot ↦ further machines (with_released slot machines) (left_by frames client n (with_released slot machines)).machines (slot_released slot machines) (left_keep frames client n (with_released slot machines))
    ]

pub bytes_by_leave : (client count : ℕ) (room after : List ℕ) (old new : DomainView) → Leaves client count room after old new → BytesStay old new
bytes_by_leave client count room after old new l =
    let kept : AllKeep old.machines new.machines = subst (λ (x : List MachineView). AllKeep old.machines x) (sym (ap (λ (d : DomainView). d.machines) l.now)) (left_keep old.frames client (length room) old.machines) in
    bytes_kept old new kept

-- one machine lent a page
pub bytes_by_lend : (old new : DomainView) (m : ℕ) (machines : List MachineView) → machines ≡ slice_set old.machines m (machine_at machines m) → new ≡ with_machines old machines
    → BytesStayIn (machine_at old.machines m) (machine_at machines m) → BytesStay old new
bytes_by_lend old new m machines others now bytes = subst (λ (d : DomainView). BytesStay old d) (sym now) (record { stay = λ slot h was is. stay slot h (cases_eq slot.machine m) was is }) where
  other : (k : ℕ) → (k ≡ m → ⊥) → machine_at machines k ≡ machine_at old.machines k
  other k ne = ap (λ (l : List MachineView). machine_at l k) others ∙ get_or-set_other old.machines m k (machine_at machines m) no_machine ne

  stay : (slot : Slot) (h : Holding) → ((slot.machine ≡ m) ⊎ (slot.machine ≡ m → ⊥)) → held_in old.machines slot ≡ Some h → held_in machines slot ≡ Some h
      → frame (machine_at machines slot.machine).frames h.frame ≡ frame (machine_at old.machines slot.machine).frames h.frame
  stay slot h (inl e) was is =
      let here : BytesStayIn (machine_at old.machines slot.machine) (machine_at machines slot.machine) = subst (λ (i : ℕ). BytesStayIn (machine_at old.machines i) (machine_at machines i)) (sym e) bytes in
      here.stay slot.ppn h was is
  stay slot h (inr ne) was is = ap (λ (v : MachineView). frame v.frames h.frame) (other slot.machine ne)
