-- Machines after slots were released: a slot is free or as it was, and a frame that is in use has the bytes that it had.
use Rattle.std.proofs.Common.{◌≡◌, ℕ, zero, suc, ◌<◌, ◌≤◌, ◌==◌, Bool, true, false, cond, List, ◌∷◌, length, Option, Some, None, refl, ap, sym, ◌∙◌, ◌⊎◌, inl, inr, subst}
use Rattle.std.specs.Prelude.{slice_set}
use Rattle.std.proofs.lemmas.Bool.{cases_eq, cases_lt, eqb-true}
use Rattle.std.proofs.lemmas.List.{length-set, get_or-set_same, get_or-set_other, set_past}
use Rattle.std.proofs.lemmas.Option.{none-some}
use Rattle.machine_frames.specs.FrameMap.{FrameMap, frame, IsTaken}
use Rattle.lent_slots.specs.declared.holding.Holding.{Holding}
use Rattle.lent_slots.specs.Slots.{MachineView, holding, is_of, sharers, left_free, with_free, without, released_by, released}
use Rattle.lent_slots.proofs.SlotLists.{held_within, set_same, set_other, unshared}
use Rattle.share_domain.specs.declared.holding.Slot.{Slot}
use Rattle.share_domain.specs.Domains.{DomainView, with_machines, with_released, freed_in, machine_at, no_machine, held_in, after_release}
use Rattle.share_domain.specs.Leaving.{at_first, first_slot, left_by}
use Rattle.share_domain.specs.Numbers.{frame_number}
use Rattle.window_domains.proofs.Frames.{the, is_there}

-- the frame of each slot that is held is in use
pub record AreInUse (machines : List MachineView) : Type 0 where
  pub each : (slot : Slot) (h : Holding) → held_in machines slot ≡ Some h → IsTaken (machine_at machines slot.machine).frames h.frame

pub record Shrinks (old new : List MachineView) : Type 0 where
  pub slots : (slot : Slot) → (held_in new slot ≡ None) ⊎ (held_in new slot ≡ held_in old slot)
  pub bytes : (k a : ℕ) (b : List ℕ) → frame (machine_at new k).frames a ≡ Some b → frame (machine_at old k).frames a ≡ Some b
  pub uses : AreInUse old → AreInUse new
  pub count : length new ≡ length old
  pub sizes : (k : ℕ) → length (machine_at new k).frames ≡ length (machine_at old k).frames

pub stays : (machines : List MachineView) → Shrinks machines machines
stays machines = record { slots = λ slot. inr refl; bytes = λ k a b e. e; uses = λ u. u; count = refl; sizes = λ k. refl }

further : (a b c : List MachineView) → Shrinks a b → Shrinks b c → Shrinks a c
further a b c f g = record {
  slots = λ slot. pick slot (g.slots slot) (f.slots slot);
  bytes = λ k i x e. f.bytes k i x (g.bytes k i x e);
  uses = λ u. g.uses (f.uses u);
  count = g.count ∙ f.count;
  sizes = λ k. g.sizes k ∙ f.sizes k;
} where
  pick : (slot : Slot) → ((held_in c slot ≡ None) ⊎ (held_in c slot ≡ held_in b slot)) → ((held_in b slot ≡ None) ⊎ (held_in b slot ≡ held_in a slot)) → (held_in c slot ≡ None) ⊎ (held_in c slot ≡ held_in a slot)
  pick slot (inl n) y = inl n
  pick slot (inr e) (inl n) = inl (e ∙ n)
  pick slot (inr e) (inr f) = inr (e ∙ f)

-- One machine changes.
record ShrinksOne (old new : MachineView) : Type 0 where
  slots : (q : ℕ) → (holding new.slots q ≡ None) ⊎ (holding new.slots q ≡ holding old.slots q)
  bytes : (a : ℕ) (b : List ℕ) → frame new.frames a ≡ Some b → frame old.frames a ≡ Some b
  uses : ((q : ℕ) (h : Holding) → holding old.slots q ≡ Some h → IsTaken old.frames h.frame) → (q : ℕ) (h : Holding) → holding new.slots q ≡ Some h → IsTaken new.frames h.frame
  size : length new.frames ≡ length old.frames

one_same : (v : MachineView) → ShrinksOne v v
one_same v = record { slots = λ q. inr refl; bytes = λ a b e. e; uses = λ u. u; size = refl }

-- a list of frames in which one was freed, or none
freed_bytes : (frames : FrameMap) (o : Option ℕ) (a : ℕ) (b : List ℕ) → frame (with_free frames o) a ≡ Some b → frame frames a ≡ Some b
freed_bytes frames None a b e = e
freed_bytes frames (Some mpn) a b e = pick (cases_eq a mpn) (cases_lt mpn (length frames)) where
  pick : ((a ≡ mpn) ⊎ (a ≡ mpn → ⊥)) → ((mpn < length frames) ⊎ (length frames ≤ mpn)) → frame frames a ≡ Some b
  pick (inr ne) l = sym (get_or-set_other frames mpn a None None ne) ∙ e
  pick (inl is) (inl l) = absurd (none-some b (sym (get_or-set_same frames mpn None None l) ∙ ap (λ i. frame (slice_set frames mpn None) i) (sym is) ∙ e))
  pick (inl is) (inr l) = ap (λ (fs : FrameMap). frame fs a) (sym (set_past frames mpn None l)) ∙ e

freed_size : (frames : FrameMap) (o : Option ℕ) → length (with_free frames o) ≡ length frames
freed_size frames None = refl
freed_size frames (Some mpn) = length-set frames mpn None

freed_taken : (frames : FrameMap) (slots : List (Option Holding)) (mpn q : ℕ) (h : Holding) → holding slots q ≡ Some h → IsTaken frames h.frame → IsTaken (with_free frames (left_free slots mpn)) h.frame
freed_taken frames slots mpn q h held taken = pick (sharers mpn slots == 0) refl where
  pick : (b : Bool) → (sharers mpn slots == 0) ≡ b → IsTaken (with_free frames (cond b (Some mpn) None)) h.frame
  pick false e = taken
  pick true e = split (cases_eq h.frame mpn) where
    split : ((h.frame ≡ mpn) ⊎ (h.frame ≡ mpn → ⊥)) → IsTaken (slice_set frames mpn None) h.frame
    split (inl is) = absurd (unshared mpn slots q h (eqb-true (sharers mpn slots) 0 e) held is)
    split (inr ne) = let x = the (frame frames h.frame) taken in is_there (frame (slice_set frames mpn None) h.frame) x.0 (get_or-set_other frames mpn h.frame None None ne ∙ x.1)

one_without : (v : MachineView) (ppn : ℕ) (h : Holding) → holding v.slots ppn ≡ Some h → ShrinksOne v (without v ppn h.frame)
one_without v ppn h held = record {
  slots = λ q. slot q (cases_eq q ppn);
  bytes = λ a b e. freed_bytes v.frames (left_free (slice_set v.slots ppn None) h.frame) a b e;
  uses = λ u q x e. freed_taken v.frames (slice_set v.slots ppn None) h.frame q x e (u q x (was q x (cases_eq q ppn) e));
  size = freed_size v.frames (left_free (slice_set v.slots ppn None) h.frame);
} where
  slot : (q : ℕ) → ((q ≡ ppn) ⊎ (q ≡ ppn → ⊥)) → (holding (slice_set v.slots ppn None) q ≡ None) ⊎ (holding (slice_set v.slots ppn None) q ≡ holding v.slots q)
  slot q (inl e) = inl (ap (holding (slice_set v.slots ppn None)) e ∙ set_same v.slots ppn None (held_within v.slots ppn h held))
  slot q (inr ne) = inr (set_other v.slots ppn q None ne)

  was : (q : ℕ) (x : Holding) → ((q ≡ ppn) ⊎ (q ≡ ppn → ⊥)) → holding (slice_set v.slots ppn None) q ≡ Some x → holding v.slots q ≡ Some x
  was q x (inl e) is = absurd (none-some x (sym (ap (holding (slice_set v.slots ppn None)) e ∙ set_same v.slots ppn None (held_within v.slots ppn h held)) ∙ is))
  was q x (inr ne) is = sym (set_other v.slots ppn q None ne) ∙ is

one_released : (v : MachineView) (ppn : ℕ) → ShrinksOne v (released ppn v)
one_released v ppn = pick (holding v.slots ppn) refl where
  pick : (o : Option Holding) → holding v.slots ppn ≡ o → ShrinksOne v (released_by v ppn o)
  pick None e = one_same v
  pick (Some h) e = one_without v ppn h e

one_changes : (machines : List MachineView) (m : ℕ) (new : MachineView) → ShrinksOne (machine_at machines m) new → Shrinks machines (slice_set machines m new)
one_changes machines m new one = pick (cases_lt m (length machines)) where
  pick : ((m < length machines) ⊎ (length machines ≤ m)) → Shrinks machines (slice_set machines m new)
  pick (inr l) = subst (λ (x : List MachineView). Shrinks machines x) (sym (set_past machines m new l)) (stays machines)
  pick (inl l) = record {
    slots = λ slot. slot_at slot (at slot.machine (cases_eq slot.machine m));
    bytes = λ k a b e. bytes_at k a b (at k (cases_eq k m)) e;
    uses = λ u. record { each = λ slot h e. in_use_at u slot h (at slot.machine (cases_eq slot.machine m)) e };
    count = length-set machines m new;
    sizes = λ k. size k (at k (cases_eq k m));
  } where
    now : List MachineView
    now = slice_set machines m new

    here : machine_at (slice_set machines m new) m ≡ new
    here = get_or-set_same machines m new no_machine l

    at : (k : ℕ) → ((k ≡ m) ⊎ (k ≡ m → ⊥)) → ShrinksOne (machine_at machines k) (machine_at (slice_set machines m new) k)
    at k (inl e) = subst (λ i. ShrinksOne (machine_at machines i) (machine_at (slice_set machines m new) i)) (sym e) (subst (λ (v : MachineView). ShrinksOne (machine_at machines m) v) (sym here) one)
    at k (inr ne) = subst (λ (v : MachineView). ShrinksOne (machine_at machines k) v) (sym (get_or-set_other machines m k new no_machine ne)) (one_same (machine_at machines k))

    slot_at : (slot : Slot) → ShrinksOne (machine_at machines slot.machine) (machine_at (slice_set machines m new) slot.machine) → (held_in (slice_set machines m new) slot ≡ None) ⊎ (held_in (slice_set machines m new) slot ≡ held_in machines slot)
    slot_at slot o = o.slots slot.ppn

    bytes_at : (k a : ℕ) (b : List ℕ) → ShrinksOne (machine_at machines k) (machine_at (slice_set machines m new) k) → frame (machine_at (slice_set machines m new) k).frames a ≡ Some b → frame (machine_at machines k).frames a ≡ Some b
    bytes_at k a b o e = o.bytes a b e

    in_use_at : AreInUse machines → (slot : Slot) (h : Holding) → ShrinksOne (machine_at machines slot.machine) (machine_at (slice_set machines m new) slot.machine) → held_in (slice_set machines m new) slot ≡ Some h → IsTaken (machine_at (slice_set machines m new) slot.machine).frames h.frame
    in_use_at u slot h o e = o.uses (λ q x held. u.each (record { machine = slot.machine; ppn = q }) x held) slot.ppn h e

    size : (k : ℕ) → ShrinksOne (machine_at machines k) (machine_at (slice_set machines m new) k) → length (machine_at (slice_set machines m new) k).frames ≡ length (machine_at machines k).frames
    size k o = o.size

pub slot_released : (slot : Slot) (machines : List MachineView) → Shrinks machines (with_released slot machines)
slot_released slot machines = one_changes machines slot.machine (released slot.ppn (machine_at machines slot.machine)) (one_released (machine_at machines slot.machine) slot.ppn)

-- a release, of the client's slot or of another one
pub release_shrinks : (client : ℕ) (slot : Slot) (d : DomainView) → Shrinks d.machines (after_release client slot d).machines
release_shrinks client slot d = pick (is_of client (held_in d.machines slot)) where
  pick : (b : Bool) → Shrinks d.machines (let x : DomainView = cond b (with_machines d (with_released slot d.machines)) d in x.machines)
  pick true = slot_released slot d.machines
  pick false = stays d.machines

pub release_frames : (client : ℕ) (slot : Slot) (d : DomainView) → (after_release client slot d).frames ≡ d.frames
release_frames client slot d = pick (is_of client (held_in d.machines slot)) where
  pick : (b : Bool) → (let x : DomainView = cond b (with_machines d (with_released slot d.machines)) d in x.frames) ≡ d.frames
  pick true = refl
  pick false = refl

-- a leave
pub leave_shrinks : (frames client n : ℕ) (machines : List MachineView) → Shrinks machines (left_by frames client n machines).machines
unfolding left_by
leave_shrinks frames client zero machines = stays machines
leave_shrinks frames client (suc n) machines =
    elim (first_slot client machines) as (λ (o : Option Slot). Shrinks machines (at_first o machines
    (λ slot. let rest = left_by frames client n (with_released slot machines) in record { numbers = frame_number (freed_in frames slot machines) ∷ rest.numbers; machines = rest.machines })).machines) [
      | None ↦ stays machines
      | Some slot ↦ further machines (with_released slot machines) (left_by frames client n (with_released slot machines)).machines (slot_released slot machines) (leave_shrinks frames client n (with_released slot machines))
    ]
