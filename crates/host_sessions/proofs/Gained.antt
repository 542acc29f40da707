-- What other clients hold after a client's lends and releases they held before.
use Rattle.std.proofs.Common.{◌≡◌, ◌≢◌, ◌⊎◌, inl, inr, ℕ, zero, suc, ◌<◌, ◌≤◌, Bool, true, false, cond, List, [], ◌∷◌, length, Option, Some, None, Result, Ok, Err, refl, sym, ap, subst, ◌∙◌}
use Rattle.std.specs.Prelude.{nat_eq}
use Rattle.std.proofs.lemmas.Bool.{cases_eq, cases_lt, eq-eqb, false≢true}
use Rattle.std.proofs.lemmas.List.{get_or-set_same, get_or_past}
use Rattle.host_messages.specs.declared.item.Lent.{Lent}
use Rattle.lent_slots.specs.declared.holding.Holding.{Holding}
use Rattle.lent_slots.specs.Slots.{MachineView, holding, is_of, lent_slots, released, released_by}
use Rattle.lent_slots.proofs.SlotLists.{got_within, held_within, set_same, set_other}
use Rattle.share_domain.specs.declared.holding.Slot.{Slot}
use Rattle.share_domain.specs.declared.holding.Loan.{Loan}
use Rattle.share_domain.specs.declared.fault.LendFault.{LendFault}
use Rattle.share_domain.specs.Domains.{DomainView, with_machines, machine_at, no_machine, held_in, with_released, freed_in, after_release, LendsIn}
use Rattle.share_domain.specs.Leaving.{Leaves, at_first, first_slot, left_by}
use Rattle.share_domain.specs.Numbers.{frame_number, slot_by}
use Rattle.share_domain.specs.Totals.{slots_of}
use Rattle.host_sessions.specs.Others.{IsAnothers, Spares}
use Rattle.host_sessions.specs.Turns.{after_releases, Answers, LendsOne, LendsInTurn}
use Rattle.host_sessions.proofs.Spared.{some-same, is_anothers, machine_other, at_freed, spares_then, same_spares, first_is_of}

-- ---- a slot that a client has just got, and one that it has just given up

is_its : (client f : ℕ) (held : Option Holding) → IsAnothers client held → held ≡ Some (record { client = client; frame = f }) → ⊥
is_its client f None is e = absurd is
is_its client f (Some h) is e = false≢true (sym is ∙ ap (λ (x : Holding). nat_eq x.client client) (some-same e) ∙ eq-eqb client client refl)

a_holding : (client : ℕ) (o : Option Holding) → is_of client o ≡ true → (h : Holding) × (o ≡ Some h)
a_holding client None e = cc
a_holding client (Some h) e = (h, refl)

none_past : (ppn : ℕ) (v : MachineView) (h : Holding) → v ≡ no_machine → holding v.slots ppn ≡ Some h → ⊥
none_past ppn v h e f = let g : holding no_machine.slots ppn ≡ Some h = subst (λ (x : MachineView). holding x.slots ppn ≡ Some h) e f in cc

pub released_held : (machines : List MachineView) (client : ℕ) (slot : Slot) → is_of client (held_in machines slot) ≡ true → held_in (with_released slot machines) slot ≡ None
released_held machines client slot is = let x = a_holding client (held_in machines slot) is in within x.0 x.1 (cases_lt slot.machine (length machines)) where
  within : (h : Holding) → held_in machines slot ≡ Some h → (slot.machine < length machines) ⊎ (length machines ≤ slot.machine) → held_in (with_released slot machines) slot ≡ None
  within h e (inr l) = absurd (none_past slot.ppn (machine_at machines slot.machine) h (get_or_past machines slot.machine no_machine l) e)
  within h e (inl l) =
      ap (λ (v : MachineView). holding v.slots slot.ppn) (get_or-set_same machines slot.machine (released slot.ppn (machine_at machines slot.machine)) no_machine l)
      ∙ ap (λ (o : Option Holding). holding (released_by (machine_at machines slot.machine) slot.ppn o).slots slot.ppn) e
      ∙ set_same (machine_at machines slot.machine).slots slot.ppn None (held_within (machine_at machines slot.machine).slots slot.ppn h e)

-- ---- lends

lends_gain_one : (m client : ℕ) (page : List ℕ) (loan : Loan) (old new : DomainView) → LendsIn m client page loan old new → Spares client new old
lends_gain_one m client page loan old new lends slot is =
    elim (cases_eq slot.machine m) [
      | inl same ↦
          let now : (machine_at new.machines m).slots ≡ lent_slots client loan.slot.ppn lends.mpn (machine_at old.machines m).slots = ap (λ (v : MachineView). v.slots) lends.lends.now in
          let its : holding (machine_at new.machines m).slots loan.slot.ppn ≡ Some (record { client = client; frame = lends.mpn }) =
          ap (λ (l : List (Option Holding)). holding l loan.slot.ppn) now
          ∙ set_same (machine_at old.machines m).slots loan.slot.ppn (Some (record { client = client; frame = lends.mpn })) (got_within (machine_at old.machines m).slots loan.slot.ppn None lends.lends.was_free) in
          let here : IsAnothers client (holding (machine_at new.machines m).slots slot.ppn) = subst (λ (k : ℕ). IsAnothers client (holding (machine_at new.machines k).slots slot.ppn)) same is in
          let apart : slot.ppn ≢ loan.slot.ppn = λ e. is_its client lends.mpn (holding (machine_at new.machines m).slots slot.ppn) here (ap (λ (k : ℕ). holding (machine_at new.machines m).slots k) e ∙ its) in
          sym (
          ap (λ (k : ℕ). holding (machine_at new.machines k).slots slot.ppn) same
          ∙ ap (λ (l : List (Option Holding)). holding l slot.ppn) now
          ∙ set_other (machine_at old.machines m).slots loan.slot.ppn slot.ppn (Some (record { client = client; frame = lends.mpn })) apart
          ∙ ap (λ (k : ℕ). holding (machine_at old.machines k).slots slot.ppn) (sym same)
          )
      | inr other ↦ sym (
          ap (λ (d : DomainView). holding (machine_at d.machines slot.machine).slots slot.ppn) lends.rest
          ∙ ap (λ (v : MachineView). holding v.slots slot.ppn) (machine_other old.machines m slot.machine (machine_at new.machines m) other)
          )
    ]

answer_gains : (salt client : ℕ) (page : List ℕ) (answer : Result Loan LendFault) (old new : DomainView) → Answers salt client page answer old new → Spares client new old
answer_gains salt client page (Ok loan) old new a = lends_gain_one loan.slot.machine client page loan old new a.lends
answer_gains salt client page (Err fault) old new a = same_spares client new old (sym a.1)

one_gains : (salt client quota : ℕ) (page : List ℕ) (lent : Lent) (old new : DomainView) → LendsOne salt client quota page lent old new → Spares client new old
one_gains salt client quota page lent old new l =
    elim (cases_lt (slots_of client old.machines) quota) [
      | inl lt ↦ let w = l.within lt in answer_gains salt client page w.answer old new w.answers
      | inr le ↦ same_spares client new old (sym (l.full le).1)
    ]

pub lends_gain : (salt client quota : ℕ) (pages : List (List ℕ)) (loans : List Lent) (old new : DomainView)
    → LendsInTurn salt client quota pages loans old new → Spares client new old
unfolding LendsInTurn
lends_gain salt client quota [] [] old new l = same_spares client new old (sym l)
lends_gain salt client quota (page ∷ pages) [] old new l = absurd l
lends_gain salt client quota [] (lent ∷ loans) old new l = absurd l
lends_gain salt client quota (page ∷ pages) (lent ∷ loans) old new l =
    spares_then client new l.0 old (lends_gain salt client quota pages loans l.0 new l.2) (one_gains salt client quota page lent old l.0 l.1)

-- ---- releases

freed_gains : (client : ℕ) (freed slot : Slot) (d : DomainView) (b : Bool) → is_of client (held_in d.machines freed) ≡ b
    → IsAnothers client (held_in (cond b (with_machines d (with_released freed d.machines)) d).machines slot)
    → held_in d.machines slot ≡ held_in (cond b (with_machines d (with_released freed d.machines)) d).machines slot
freed_gains client freed slot d false e is = refl
freed_gains client freed slot d true e is =
    elim (cases_eq slot.machine freed.machine) [
      | inl same ↦
          let none : (slot.ppn ≡ freed.ppn) → held_in (with_released freed d.machines) slot ≡ None = λ p.
          ap (λ (k : ℕ). holding (machine_at (with_released freed d.machines) k).slots slot.ppn) same
          ∙ ap (λ (k : ℕ). holding (machine_at (with_released freed d.machines) freed.machine).slots k) p
          ∙ released_held d.machines client freed e in
          let apart : slot.ppn ≢ freed.ppn = λ p. is_anothers client (held_in (with_released freed d.machines) slot) is (none p) in
          sym (
          ap (λ (k : ℕ). holding (machine_at (with_released freed d.machines) k).slots slot.ppn) same
          ∙ at_freed d.machines freed slot.ppn apart
          ∙ ap (λ (k : ℕ). holding (machine_at d.machines k).slots slot.ppn) (sym same)
          )
      | inr other ↦ sym (ap (λ (v : MachineView). holding v.slots slot.ppn) (machine_other d.machines freed.machine slot.machine (released freed.ppn (machine_at d.machines freed.machine)) other))
    ]

release_gains : (client : ℕ) (freed : Slot) (d : DomainView) → Spares client (after_release client freed d) d
release_gains client freed d slot is = freed_gains client freed slot d (is_of client (held_in d.machines freed)) refl is

pub releases_gain : (client : ℕ) (ss : List ℕ) (d : DomainView) → Spares client (after_releases client ss d) d
unfolding after_releases
releases_gain client [] d = same_spares client d d refl
releases_gain client (s ∷ ss) d =
    spares_then client (after_releases client ss (after_release client (slot_by s) d)) (after_release client (slot_by s) d) d (releases_gain client ss (after_release client (slot_by s) d)) (release_gains client (slot_by s) d)

-- ---- a client that leaves

left_gains : (frames client n : ℕ) (machines : List MachineView) (slot : Slot) → IsAnothers client (held_in (left_by frames client n machines).machines slot) → held_in machines slot ≡ held_in (left_by frames client n machines).machines slot
unfolding left_by
left_gains frames client zero machines slot is = refl
left_gains frames client (suc n) machines slot is =
    elim (first_slot client machines) as (λ (o : Option Slot). first_slot client machines ≡ o
    → IsAnothers client (held_in (at_first o machines (λ first. let rest = left_by frames client n (with_released first machines) in record { numbers = frame_number (freed_in frames first machines) ∷ rest.numbers; machines = rest.machines })).machines slot)
    → held_in machines slot ≡ held_in (at_first o machines (λ first. let rest = left_by frames client n (with_released first machines) in record { numbers = frame_number (freed_in frames first machines) ∷ rest.numbers; machines = rest.machines })).machines slot) [
      | None ↦ λ e here. refl
      | Some first ↦ λ e here.
          let d : DomainView = record { salt = 0; frames = frames; machines = machines; clients = [] } in
          let rest : held_in (with_released first machines) slot ≡ held_in (left_by frames client n (with_released first machines)).machines slot = left_gains frames client n (with_released first machines) slot here in
          freed_gains client first slot d true (first_is_of client machines first e) (subst (λ (h : Option Holding). IsAnothers client h) (sym rest) here) ∙ rest
    ] refl is

pub leave_gains : (client count : ℕ) (room after : List ℕ) (old new : DomainView) → Leaves client count room after old new → Spares client new old
leave_gains client count room after old new l slot is =
    let now : held_in new.machines slot ≡ held_in (left_by old.frames client (length room) old.machines).machines slot = ap (λ (d : DomainView). held_in d.machines slot) l.now in
    left_gains old.frames client (length room) old.machines slot (subst (λ (h : Option Holding). IsAnothers client h) now is) ∙ sym now
