-- What a client's lends and releases leave of every other client's slots.
use Rattle.std.proofs.Common.{◌≡◌, ◌≢◌, inl, inr, ℕ, zero, suc, ◌+◌, Bool, true, false, cond, List, [], ◌∷◌, length, Option, Some, None, Result, Ok, Err, refl, sym, ap, subst, ◌∙◌, arith}
use Rattle.std.specs.Prelude.{slice_get, slice_set, position}
use Rattle.std.proofs.lemmas.Bool.{cases_eq, cases_lt, false≢true}
use Rattle.std.proofs.lemmas.List.{get_or-set_same, get_or-set_other, get_or_past, length-set}
use Rattle.std.proofs.lemmas.List.Quantifiers.{position-Some}
use Rattle.std.proofs.lemmas.Option.{unwrap_or-slice_get}
use Rattle.host_messages.specs.declared.item.Lent.{Lent}
use Rattle.lent_slots.specs.declared.holding.Holding.{Holding}
use Rattle.lent_slots.specs.Slots.{MachineView, holding, is_of, lent_slots, released, released_by}
use Rattle.lent_slots.proofs.SlotLists.{set_other}
use Rattle.share_domain.specs.declared.holding.Slot.{Slot}
use Rattle.share_domain.specs.declared.holding.Loan.{Loan}
use Rattle.share_domain.specs.declared.fault.LendFault.{LendFault}
use Rattle.share_domain.specs.Domains.{DomainView, with_machines, machine_at, no_machine, held_in, with_released, freed_in, after_release, LendsIn}
use Rattle.host_sessions.specs.Others.{IsAnothers, Spares}
use Rattle.share_domain.specs.Leaving.{Leaves, at_first, first_slot, slot_from, or_later, left_by}
use Rattle.share_domain.specs.Numbers.{frame_number}
use Rattle.share_domain.specs.Numbers.{slot_by}
use Rattle.share_domain.specs.Totals.{slots_of}
use Rattle.host_sessions.specs.Turns.{after_releases, Answers, LendsOne, LendsInTurn}

abbrev record_slot : ℕ → ℕ → Slot
record_slot machine ppn = record { machine = machine; ppn = ppn }

pub some-same : {A : Type 0} {x y : A} → Some x ≡ Some y → x ≡ y
some-same e = cc

pub is_anothers : (client : ℕ) (held : Option Holding) → IsAnothers client held → held ≡ None → ⊥
is_anothers client None is e = is
is_anothers client (Some h) is e = absurd cc

not_of : (client : ℕ) (held : Option Holding) → IsAnothers client held → is_of client held ≡ false
not_of client None is = absurd is
not_of client (Some h) is = is

-- a slot of another machine
pub machine_other : (machines : List MachineView) (m other : ℕ) (x : MachineView) → other ≢ m → machine_at (slice_set machines m x) other ≡ machine_at machines other
machine_other machines m other x apart = get_or-set_other machines m other x no_machine apart

pub free_held : (slots : List (Option Holding)) (ppn : ℕ) → slice_get slots ppn ≡ Some None → holding slots ppn ≡ None
free_held slots ppn e = sym (unwrap_or-slice_get slots ppn None) ∙ rw e refl

lends_spares : (m client : ℕ) (page : List ℕ) (loan : Loan) (old new : DomainView) → LendsIn m client page loan old new → Spares client old new
lends_spares m client page loan old new lends slot is =
    elim (cases_eq slot.machine m) [
      | inl same ↦
          let now : (machine_at new.machines m).slots ≡ lent_slots client loan.slot.ppn lends.mpn (machine_at old.machines m).slots = ap (λ (v : MachineView). v.slots) lends.lends.now in
          let here : IsAnothers client (holding (machine_at old.machines m).slots slot.ppn) = subst (λ (k : ℕ). IsAnothers client (holding (machine_at old.machines k).slots slot.ppn)) same is in
          let apart : slot.ppn ≢ loan.slot.ppn = λ e. is_anothers client (holding (machine_at old.machines m).slots slot.ppn) here (ap (λ (k : ℕ). holding (machine_at old.machines m).slots k) e ∙ free_held (machine_at old.machines m).slots loan.slot.ppn lends.lends.was_free) in
          ap (λ (k : ℕ). holding (machine_at new.machines k).slots slot.ppn) same
          ∙ ap (λ (l : List (Option Holding)). holding l slot.ppn) now
          ∙ set_other (machine_at old.machines m).slots loan.slot.ppn slot.ppn _ apart
          ∙ ap (λ (k : ℕ). holding (machine_at old.machines k).slots slot.ppn) (sym same)
      | inr other ↦
          ap (λ (d : DomainView). holding (machine_at d.machines slot.machine).slots slot.ppn) lends.rest
          ∙ ap (λ (v : MachineView). holding v.slots slot.ppn) (machine_other old.machines m slot.machine (machine_at new.machines m) other)
    ]

released_other : (v : MachineView) (ppn other : ℕ) (held : Option Holding) → other ≢ ppn → holding (released_by v ppn held).slots other ≡ holding v.slots other
released_other v ppn other None apart = refl
released_other v ppn other (Some h) apart = set_other v.slots ppn other None apart

pub at_freed : (ms : List MachineView) (freed : Slot) (ppn : ℕ) → ppn ≢ freed.ppn → holding (machine_at (with_released freed ms) freed.machine).slots ppn ≡ holding (machine_at ms freed.machine).slots ppn
at_freed ms freed ppn apart =
    elim (cases_lt freed.machine (length ms)) [
      | inl lt ↦
          ap (λ (v : MachineView). holding v.slots ppn) (get_or-set_same ms freed.machine (released freed.ppn (machine_at ms freed.machine)) no_machine lt)
          ∙ released_other (machine_at ms freed.machine) freed.ppn ppn (holding (machine_at ms freed.machine).slots freed.ppn) apart
      | inr le ↦
          ap (λ (v : MachineView). holding v.slots ppn)
          (get_or_past (with_released freed ms) freed.machine no_machine (omega (arith, le, length-set ms freed.machine (released freed.ppn (machine_at ms freed.machine)))) ∙ sym (get_or_past ms freed.machine no_machine le))
    ]

freed_spares : (client : ℕ) (freed slot : Slot) (d : DomainView) → IsAnothers client (held_in d.machines slot) → (b : Bool) → is_of client (held_in d.machines freed) ≡ b
    → held_in (cond b (with_machines d (with_released freed d.machines)) d).machines slot ≡ held_in d.machines slot
freed_spares client freed slot d is false e = refl
freed_spares client freed slot d is true e =
    elim (cases_eq slot.machine freed.machine) [
      | inl same ↦
          let apart : slot.ppn ≢ freed.ppn = λ p. false≢true (sym (not_of client (held_in d.machines slot) is) ∙ ap (λ (k : ℕ). is_of client (holding (machine_at d.machines k).slots slot.ppn)) same ∙ ap (λ (k : ℕ). is_of client (holding (machine_at d.machines freed.machine).slots k)) p ∙ e) in
          ap (λ (k : ℕ). holding (machine_at (with_released freed d.machines) k).slots slot.ppn) same
          ∙ at_freed d.machines freed slot.ppn apart
          ∙ ap (λ (k : ℕ). holding (machine_at d.machines k).slots slot.ppn) (sym same)
      | inr other ↦ ap (λ (v : MachineView). holding v.slots slot.ppn) (machine_other d.machines freed.machine slot.machine (released freed.ppn (machine_at d.machines freed.machine)) other)
    ]

release_spares : (client : ℕ) (freed : Slot) (d : DomainView) → Spares client d (after_release client freed d)
release_spares client freed d slot is = freed_spares client freed slot d is (is_of client (held_in d.machines freed)) refl

pub spares_then : (client : ℕ) (a b c : DomainView) → Spares client a b → Spares client b c → Spares client a c
spares_then client a b c p q slot is = let e = p slot is in q slot (subst (λ (h : Option Holding). IsAnothers client h) (sym e) is) ∙ e

pub same_spares : (client : ℕ) (old new : DomainView) → new ≡ old → Spares client old new
same_spares client old new e slot is = ap (λ (d : DomainView). held_in d.machines slot) e

pub releases_spare : (client : ℕ) (ss : List ℕ) (d : DomainView) → Spares client d (after_releases client ss d)
unfolding after_releases
releases_spare client [] d = same_spares client d d refl
releases_spare client (s ∷ ss) d =
    spares_then client d (after_release client (slot_by s) d) (after_releases client ss (after_release client (slot_by s) d)) (release_spares client (slot_by s) d) (releases_spare client ss (after_release client (slot_by s) d))

answer_spares : (salt client : ℕ) (page : List ℕ) (answer : Result Loan LendFault) (old new : DomainView) → Answers salt client page answer old new → Spares client old new
answer_spares salt client page (Ok loan) old new a = lends_spares loan.slot.machine client page loan old new a.lends
answer_spares salt client page (Err fault) old new a = same_spares client old new a.1

one_spares : (salt client quota : ℕ) (page : List ℕ) (lent : Lent) (old new : DomainView) → LendsOne salt client quota page lent old new → Spares client old new
one_spares salt client quota page lent old new l =
    elim (cases_lt (slots_of client old.machines) quota) [
      | inl lt ↦ let w = l.within lt in answer_spares salt client page w.answer old new w.answers
      | inr le ↦ same_spares client old new (l.full le).1
    ]

pub lends_spare : (salt client quota : ℕ) (pages : List (List ℕ)) (loans : List Lent) (old new : DomainView)
    → LendsInTurn salt client quota pages loans old new → Spares client old new
unfolding LendsInTurn
lends_spare salt client quota [] [] old new l = same_spares client old new l
lends_spare salt client quota (page ∷ pages) [] old new l = absurd l
lends_spare salt client quota [] (lent ∷ loans) old new l = absurd l
lends_spare salt client quota (page ∷ pages) (lent ∷ loans) old new l =
    spares_then client old l.0 new (one_spares salt client quota page lent old l.0 l.1) (lends_spare salt client quota pages loans l.0 new l.2)

-- ---- a client that leaves

-- the first slot of a client from a machine on is that client's
first_from_is_of : (client m : ℕ) (machines : List MachineView) (first : Slot) → slot_from client m machines ≡ Some first
    → (j : ℕ) × (first.machine ≡ m + j) × (is_of client (holding (machine_at machines j).slots first.ppn) ≡ true)
first_from_is_of client m [] first e = absurd cc
first_from_is_of client m (machine ∷ machines) first e = pick (position (is_of client) machine.slots) refl (λ later. first_from_is_of client (m + 1) machines first later) e where
  pick : (o : Option ℕ) → position (is_of client) machine.slots ≡ o
      → (slot_from client (m + 1) machines ≡ Some first → (j : ℕ) × (first.machine ≡ m + 1 + j) × (is_of client (holding (machine_at machines j).slots first.ppn) ≡ true))
      → or_later m o (slot_from client (m + 1) machines) ≡ Some first
      → (j : ℕ) × (first.machine ≡ m + j) × (is_of client (holding (machine_at (machine ∷ machines) j).slots first.ppn) ≡ true)
  pick None p rest f = let later = rest f in (suc later.0, omega (arith, later.1), later.2)
  pick (Some ppn) p rest f =
      let here : record_slot m ppn ≡ first = some-same f in
      (0, omega (arith, ap (λ (s : Slot). s.machine) here), ap (λ (k : ℕ). is_of client (holding machine.slots k)) (sym (ap (λ (s : Slot). s.ppn) here)) ∙ (position-Some (is_of client) machine.slots ppn None p).1)

pub first_is_of : (client : ℕ) (machines : List MachineView) (first : Slot) → first_slot client machines ≡ Some first → is_of client (held_in machines first) ≡ true
first_is_of client machines first e =
    let found = first_from_is_of client 0 machines first e in
    let at : first.machine ≡ found.0 = omega (arith, found.1) in
    ap (λ (k : ℕ). is_of client (holding (machine_at machines k).slots first.ppn)) at ∙ found.2

left_spares : (frames client n : ℕ) (machines : List MachineView) (slot : Slot) → IsAnothers client (held_in machines slot) → held_in (left_by frames client n machines).machines slot ≡ held_in machines slot
unfolding left_by
left_spares frames client zero machines slot is = refl
left_spares frames client (suc n) machines slot is =
    elim (first_slot client machines) as (λ (o : Option Slot). first_slot client machines ≡ o → held_in (at_first o machines
    (λ first. let rest = left_by frames client n (with_released first machines) in record { numbers = frame_number (freed_in frames first machines) ∷ rest.numbers; machines = rest.machines })).machines slot ≡ held_in machines slot) [
      | None ↦ λ e. refl
      | Some first ↦ λ e.
          let d : DomainView = record { salt = 0; frames = frames; machines = machines; clients = [] } in
          let one : held_in (with_released first machines) slot ≡ held_in machines slot = freed_spares client first slot d is true (first_is_of client machines first e) in
          left_spares frames client n (with_released first machines) slot (subst (λ (h : Option Holding). IsAnothers client h) (sym one) is) ∙ one
    ] refl

pub leave_spares : (client count : ℕ) (room after : List ℕ) (old new : DomainView) → Leaves client count room after old new → Spares client old new
leave_spares client count room after old new l slot is =
    ap (λ (d : DomainView). held_in d.machines slot) l.now ∙ left_spares old.frames client (length room) old.machines slot is
