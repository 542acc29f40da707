-- What the end of a session's process leaves of its slots.
use Rattle.std.proofs.Common.{◌≡◌, ◌∙◌, ◌⊎◌, inl, inr, ℕ, zero, suc, ◌+◌, ◌<◌, ◌≤◌, Bool, true, false, not, List, [], ◌∷◌, length, get_or, Option, Some, None, refl, ap, sym, arith}
use Rattle.std.specs.Prelude.{slice_get, slice_set, unwrap_or, MatchOption}
use Rattle.std.specs.List.{position, prefix_len}
use Rattle.std.proofs.lemmas.Bool.{cases_eq, cases_lt, false≢true, not-true}
use Rattle.std.proofs.lemmas.Bool.Decides.{nat_tests}
use Rattle.std.proofs.lemmas.List.{get_or-set_same, get_or_past}
use Rattle.std.proofs.lemmas.List.Sums.{prefix_len_passes}
use Rattle.std.proofs.lemmas.Option.{unwrap_or-slice_get}
use Rattle.lent_slots.specs.declared.holding.Holding.{Holding}
use Rattle.lent_slots.specs.Slots.{MachineView, holding, is_of, released}
use Rattle.share_domain.specs.declared.client.Presence.{Presence}
use Rattle.share_domain.specs.declared.client.Presence.TheVariants.{Out, In, Leaving}
use Rattle.share_domain.specs.declared.holding.Slot.{Slot}
use Rattle.share_domain.specs.Domains.{DomainView, machine_at, held_in, with_released, freed_in}
use Rattle.share_domain.specs.Leaving.{Leaves, StaysOut, at_first, first_slot, slot_from, or_later, is_here, left_by}
use Rattle.share_domain.specs.Numbers.{frame_number, slot_by}
use Rattle.share_domain.specs.Totals.{is_present, slots_of}
use Rattle.host_sessions.specs.declared.session.Begun.{Begun}
use Rattle.host_sessions.specs.declared.session.Session.{Session}
use Rattle.host_sessions.specs.declared.session.Session.TheVariants as session
use Rattle.host_sessions.specs.Ends.{EndsBegun, EndsEmpty, ended, count_of}
use Rattle.host_sessions.specs.Own.{HasOwn}
use Rattle.host_sessions.specs.Steps.{HostView}
use Rattle.host_sessions.specs.Table.{session_at}
use Rattle.host_sessions.proofs.Emptied.{none_from}
use Rattle.host_sessions.proofs.Gained.{released_held}
use Rattle.host_sessions.proofs.Spared.{machine_other, at_freed, first_is_of}
use Rattle.session_laws.specs.World.{HostSide}
use Rattle.host_halves.specs.Halves.{frame_if, frame_for, HasHalf, EmptyHalf, EndedHalf, EndsHalf}
use Rattle.host_halves.proofs.Held.{not_its}

-- ---- no slot is left

none_passes : {X : Type 0} (p : X → Bool) (xs : List X) (i : ℕ) (d : X) → position p xs ≡ None → i < length xs → p (get_or xs i d) ≡ false
none_passes p xs i d e l =
    let b : length xs ≤ prefix_len (λ x. not (p x)) xs = grind (arith, nat_tests) in
    not-true _ (prefix_len_passes (λ x. not (p x)) xs i d (omega arith))

both_none : (m : ℕ) (o : Option ℕ) (later : Option Slot) → or_later m o later ≡ None → (o ≡ None) × (later ≡ None)
both_none m None later e = (refl, e)
both_none m (Some ppn) later e = absurd cc

none_in : (client : ℕ) (machine : MachineView) (ppn : ℕ) → position (is_of client) machine.slots ≡ None → is_of client (holding machine.slots ppn) ≡ false
none_in client machine ppn none = elim (cases_lt ppn (length machine.slots)) [
  | inl lt ↦ none_passes (is_of client) machine.slots ppn None none lt
  | inr le ↦ ap (λ (o : Option Holding). is_of client o) (get_or_past machine.slots ppn None le)
]

none_there : (client m : ℕ) (machines : List MachineView) → slot_from client m machines ≡ None → (j ppn : ℕ) → is_of client (holding (machine_at machines j).slots ppn) ≡ false
none_there client m [] e j ppn = refl
none_there client m (machine ∷ machines) e zero ppn = none_in client machine ppn (both_none m (position (is_of client) machine.slots) (slot_from client (m + 1) machines) e).0
none_there client m (machine ∷ machines) e (suc k) ppn =
    none_there client (m + 1) machines (both_none m (position (is_of client) machine.slots) (slot_from client (m + 1) machines) e).1 k ppn

-- ---- some are left

one_left : (client : ℕ) (machines : List MachineView) (first slot : Slot) → is_of client (held_in machines first) ≡ true
    → (held_in (with_released first machines) slot ≡ held_in machines slot) ⊎ (held_in (with_released first machines) slot ≡ None)
one_left client machines first slot its =
    elim (cases_eq slot.machine first.machine) [
      | inl same ↦ elim (cases_eq slot.ppn first.ppn) [
        | inl here ↦ inr (
            ap (λ (k : ℕ). holding (machine_at (with_released first machines) k).slots slot.ppn) same
            ∙ ap (λ (k : ℕ). holding (machine_at (with_released first machines) first.machine).slots k) here
            ∙ released_held machines client first its
            )
        | inr other ↦ inl (
            ap (λ (k : ℕ). holding (machine_at (with_released first machines) k).slots slot.ppn) same
            ∙ at_freed machines first slot.ppn other
            ∙ ap (λ (k : ℕ). holding (machine_at machines k).slots slot.ppn) (sym same)
            )
      ]
      | inr other ↦ inl (ap (λ (v : MachineView). holding v.slots slot.ppn) (machine_other machines first.machine slot.machine (released first.ppn (machine_at machines first.machine)) other))
    ]

and_then : (client : ℕ) (was mid is : Option Holding) → (mid ≡ was) ⊎ (mid ≡ None) → (is ≡ mid) ⊎ (is_of client is ≡ false) → (is ≡ was) ⊎ (is_of client is ≡ false)
and_then client was mid is one (inr none) = inr none
and_then client was mid is (inl e) (inl f) = inl (f ∙ e)
and_then client was mid is (inr e) (inl f) = inr (ap (λ (o : Option Holding). is_of client o) (f ∙ e))

left_held : (frames client n : ℕ) (machines : List MachineView) (slot : Slot)
    → (held_in (left_by frames client n machines).machines slot ≡ held_in machines slot) ⊎ (is_of client (held_in (left_by frames client n machines).machines slot) ≡ false)
unfolding left_by
left_held frames client zero machines slot = inl refl
left_held frames client (suc n) machines slot =
    elim (first_slot client machines) as (λ (o : Option Slot). first_slot client machines ≡ o
    → (held_in (at_first o machines (λ first. let rest = left_by frames client n (with_released first machines) in record { numbers = frame_number (freed_in frames first machines) ∷ rest.numbers; machines = rest.machines })).machines slot ≡ held_in machines slot)
    ⊎ (is_of client (held_in (at_first o machines (λ first. let rest = left_by frames client n (with_released first machines) in record { numbers = frame_number (freed_in frames first machines) ∷ rest.numbers; machines = rest.machines })).machines slot) ≡ false)) [
      | None ↦ λ e. inl refl
      | Some first ↦ λ e.
          and_then client (held_in machines slot) (held_in (with_released first machines) slot) (held_in (left_by frames client n (with_released first machines)).machines slot)
          (one_left client machines first slot (first_is_of client machines first e))
          (left_held frames client n (with_released first machines) slot)
    ] refl

-- ---- the end

clash : (o : Option Presence) → is_here o ≡ false → is_present (unwrap_or o Out) ≡ true → ⊥
clash None out here = false≢true here
clash (Some Out) out here = false≢true here
clash (Some In) out here = false≢true (sym out)
clash (Some Leaving) out here = false≢true (sym out)

pub ends_half : EndsHalf
ends_half n count room after old new b h own lt e has = begun e.answer e.leaves e.counted (ap (λ (v : HostView). v.sessions) e.now) where
  there : is_present (unwrap_or (slice_get old.domain.clients b.client) Out) ≡ true
  there = ap is_present (unwrap_or-slice_get old.domain.clients b.client Out) ∙ own.here n b has.begun

  begun : (answer : Option ℕ) → MatchOption answer (StaysOut b.client room after old.domain new.domain) (λ c. Leaves b.client c room after old.domain new.domain)
      → count ≡ count_of answer → new.sessions ≡ slice_set old.sessions n (ended b (count_of answer)) → EndedHalf n b count new h
  begun None l counted now = absurd (clash (slice_get old.domain.clients b.client) l.out there)
  begun (Some c) l counted now = record { held = held; none = none; gone = gone } where
    machines : List MachineView
    machines = (left_by old.domain.frames b.client (length room) old.domain.machines).machines

    held : (number : ℕ) → (frame_for b.client new.domain number ≡ h.held number) ⊎ (frame_for b.client new.domain number ≡ None)
    held number =
        let slot : Slot = slot_by number in
        let same : frame_for b.client new.domain number ≡ frame_if b.client old.domain.frames slot.machine (held_in machines slot) = ap (λ (d : DomainView). frame_for b.client d number) l.now in
        elim (left_held old.domain.frames b.client (length room) old.domain.machines slot) [
          | inl e ↦ inl (same ∙ ap (λ (o : Option Holding). frame_if b.client old.domain.frames slot.machine o) e ∙ sym (has.half.held number))
          | inr e ↦ inr (same ∙ not_its b.client old.domain.frames slot.machine (held_in machines slot) e)
        ]

    none : count ≡ 0 → (number : ℕ) → h.held number ≡ None
    none z number =
        let slot : Slot = slot_by number in
        let first : first_slot b.client old.domain.machines ≡ None = l.none.0 (sym counted ∙ z) in
        has.half.held number ∙ not_its b.client old.domain.frames slot.machine (held_in old.domain.machines slot) (none_there b.client 0 old.domain.machines first slot.machine slot.ppn)

    gone : count ≡ 0 → session_at new.sessions n ≡ session.Free
    gone z =
        ap (λ (ss : List Session). session_at ss n) now
        ∙ get_or-set_same old.sessions n (ended b c) session.Free lt
        ∙ ap (λ (k : ℕ). ended b k) (sym counted ∙ z)

pub empty_half : EmptyHalf
empty_half n result old new b h e has = pick (slots_of b.client old.domain.machines) refl where
  none : slots_of b.client old.domain.machines ≡ 0 → (number : ℕ) → h.held number ≡ None
  none z number =
      let slot : Slot = slot_by number in
      has.half.held number ∙ not_its b.client old.domain.frames slot.machine (held_in old.domain.machines slot)
      (none_there b.client 0 old.domain.machines (none_from b.client 0 old.domain.machines z) slot.machine slot.ppn)

  pick : (count : ℕ) → slots_of b.client old.domain.machines ≡ count → ((result ≡ true) × ((number : ℕ) → h.held number ≡ None)) ⊎ ((result ≡ false) × (new ≡ old))
  pick zero z = inl ((e.empty z).0, none z)
  pick (suc m) z = inr (e.held (omega (arith, z)))
