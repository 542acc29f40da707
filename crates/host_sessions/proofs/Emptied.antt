-- The end of a session that has no slots.
use Rattle.std.proofs.Common.{◌≡◌, ◌∙◌, ℕ, ◌+◌, ◌≤◌, Bool, true, List, [], ◌∷◌, Option, Some, None, refl, ap, arith}
use Rattle.std.specs.Prelude.{position, MatchOption}
use Rattle.std.proofs.lemmas.List.Quantifiers.{position-Some}
use Rattle.std.proofs.lemmas.List.Sums.{sum_by-cons, sum_by-set}
use Rattle.lent_slots.specs.declared.holding.Holding.{Holding}
use Rattle.lent_slots.specs.Slots.{MachineView, is_of, held_by}
use Rattle.lent_slots.proofs.Tags.{bit}
use Rattle.share_domain.specs.declared.holding.Slot.{Slot}
use Rattle.share_domain.specs.Domains.{DomainView}
use Rattle.share_domain.specs.Leaving.{Leaves, StaysOut, first_slot, slot_from, or_later}
use Rattle.share_domain.specs.Totals.{slots_of}
use Rattle.host_sessions.specs.declared.session.Session.{Session}
use Rattle.host_sessions.specs.declared.session.Session.TheVariants as session
use Rattle.host_sessions.specs.Ends.{Ends, count_of}
use Rattle.host_sessions.specs.Steps.{HostView}
use Rattle.host_sessions.specs.Table.{session_slots}

-- a client that has no slot of a machine
none_of : (client : ℕ) (slots : List (Option Holding)) → held_by client slots ≡ 0 → position (is_of client) slots ≡ None
none_of client slots z =
    elim (position (is_of client) slots) as (λ (o : Option ℕ). position (is_of client) slots ≡ o → o ≡ None) [
      | None ↦ λ e. refl
      | Some i ↦ λ e.
          let there = position-Some (is_of client) slots i None e in
          let one = sum_by-set (λ (o : Option Holding). bit (is_of client o)) slots i None None there.0 in
          let its = ap bit there.1 in
          absurd (omega (arith, one, its, z))
    ] refl

pub none_from : (client m : ℕ) (machines : List MachineView) → slots_of client machines ≡ 0 → slot_from client m machines ≡ None
none_from client m [] z = refl
none_from client m (machine ∷ machines) z =
    let sum = sum_by-cons (λ (v : MachineView). held_by client v.slots) machine machines in
    ap (λ (o : Option ℕ). or_later m o (slot_from client (m + 1) machines)) (none_of client machine.slots (omega (arith, sum, z)))
    ∙ none_from client (m + 1) machines (omega (arith, sum, z))

leaves_none : (client : ℕ) (machines : List MachineView) (answer : Option ℕ) (room after : List ℕ) (old new : DomainView) → old.machines ≡ machines → slots_of client machines ≡ 0
    → MatchOption answer (StaysOut client room after old new) (λ c. Leaves client c room after old new) → count_of answer ≡ 0
leaves_none client machines None room after old new e z l = refl
leaves_none client machines (Some c) room after old new e z l = l.none.1 (ap (λ (ms : List MachineView). first_slot client ms) e ∙ none_from client 0 machines z)

-- the end of a session that has no slots releases none
pub ends_none : (n : ℕ) (s : Session) (result : Option ℕ) (room after : List ℕ) (old new : HostView) → session_slots old.domain.machines s ≡ 0
    → Ends n s result room after old new → count_of result ≡ 0
ends_none n session.Free result room after old new z e = ap count_of e.0
ends_none n (session.Silent name) result room after old new z e = ap count_of e.0
ends_none n (session.Refused fault) result room after old new z e = ap count_of e.0
ends_none n (session.Begun b) None room after old new z e = absurd e
ends_none n (session.Begun b) (Some count) room after old new z e = e.counted ∙ leaves_none b.client old.domain.machines e.answer room after old.domain new.domain refl z e.leaves
