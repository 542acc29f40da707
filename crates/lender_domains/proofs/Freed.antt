-- A client's slot that is released is free, and no other slot changes.
use Rattle.std.proofs.Common.{◌≡◌, ◌≢◌, ◌∙◌, ℕ, zero, suc, ◌+◌, ◌<◌, ◌≤◌, ◌⊎◌, inl, inr, Bool, true, false, cond, List, [], ◌∷◌, length, Option, Some, None, refl, ap, sym, subst, arith}
use Rattle.std.specs.Prelude.{slice_get, slice_set, is_none, option_map, option_and_then}
use Rattle.std.proofs.lemmas.Bool.{cases_eq, cases_lt}
use Rattle.std.proofs.lemmas.List.{get_or-set_same, get_or-set_other, set_past, get_or_past}
use Rattle.lent_slots.specs.declared.holding.Holding.{Holding}
use Rattle.lent_slots.specs.Slots.{MachineView, holding, is_of, released_by, released}
use Rattle.lent_slots.proofs.SlotLists.{held_within, set_same, set_other}
use Rattle.share_domain.specs.declared.holding.Slot.{Slot}
use Rattle.share_domain.specs.Domains.{DomainView, with_machines, with_released, machine_at, no_machine, held_in, after_release}
use Rattle.window_events.specs.Windows.{Mappings, is_bare, with_page, step}
use Rattle.window_events.specs.Windows as windows
use Rattle.window_events.specs.declared.event.Event.{Event}
use Rattle.window_events.specs.declared.page.Page.{Page}
use Rattle.window_domains.specs.Agreement.{Agrees, Plays}
use Rattle.window_domains.specs.Calls.{is_lost, releases, NoneShown}
use Rattle.window_domains.proofs.Released.{releases_by_events}
use Rattle.window_domains.proofs.Frames.{got_other}
use Rattle.lender_domains.specs.Owned.{Owns, release_of, ReleasesOwn, ReleaseIsRefused}
use Rattle.lender_domains.proofs.Lists.{LosesOnly, only_releases, only_left}

abbrev slot_at : ℕ → ℕ → Slot
slot_at machine ppn = record { machine = machine; ppn = ppn }

pub same_slot : (a b : Slot) → a.machine ≡ b.machine → a.ppn ≡ b.ppn → a ≡ b
same_slot a b e f = ap (λ (m : ℕ). slot_at m a.ppn) e ∙ ap (λ (k : ℕ). slot_at b.machine k) f

released_other : (v : MachineView) (ppn other : ℕ) (held : Option Holding) → other ≢ ppn → holding (released_by v ppn held).slots other ≡ holding v.slots other
released_other v ppn other None ne = refl
released_other v ppn other (Some h) ne = set_other v.slots ppn other None ne

-- another slot stays
other_held : (d : DomainView) (client : ℕ) (slot s : Slot) → (s ≡ slot → ⊥) → held_in (after_release client slot d).machines s ≡ held_in d.machines s
other_held d client slot s ne = pick (is_of client (held_in d.machines slot)) where
  there : (cases : (s.machine ≡ slot.machine) ⊎ (s.machine ≡ slot.machine → ⊥)) → held_in (with_released slot d.machines) s ≡ held_in d.machines s
  there (inr apart) = ap (λ (v : MachineView). holding v.slots s.ppn) (get_or-set_other d.machines slot.machine s.machine (released slot.ppn (machine_at d.machines slot.machine)) no_machine apart)
  there (inl e) = within (cases_lt slot.machine (length d.machines)) where
    within : (slot.machine < length d.machines) ⊎ (length d.machines ≤ slot.machine) → held_in (with_released slot d.machines) s ≡ held_in d.machines s
    within (inr l) = ap (λ (ms : List MachineView). held_in ms s) (set_past d.machines slot.machine (released slot.ppn (machine_at d.machines slot.machine)) l)
    within (inl l) =
        ap (λ (k : ℕ). holding (machine_at (with_released slot d.machines) k).slots s.ppn) e
        ∙ ap (λ (v : MachineView). holding v.slots s.ppn) (get_or-set_same d.machines slot.machine (released slot.ppn (machine_at d.machines slot.machine)) no_machine l)
        ∙ released_other (machine_at d.machines slot.machine) slot.ppn s.ppn (holding (machine_at d.machines slot.machine).slots slot.ppn) (λ f. ne (same_slot s slot e f))
        ∙ ap (λ (k : ℕ). holding (machine_at d.machines k).slots s.ppn) (sym e)

  pick : (b : Bool) → held_in (let x : DomainView = cond b (with_machines d (with_released slot d.machines)) d in x.machines) s ≡ held_in d.machines s
  pick false = refl
  pick true = there (cases_eq s.machine slot.machine)

-- a slot that a client holds
a_holding : (client : ℕ) (o : Option Holding) → is_of client o ≡ true → (h : Holding) × (o ≡ Some h)
a_holding client None e = cc
a_holding client (Some h) e = (h, refl)

none_past : (ppn : ℕ) (v : MachineView) (h : Holding) → v ≡ no_machine → holding v.slots ppn ≡ Some h → ⊥
none_past ppn v h e f = let g : holding no_machine.slots ppn ≡ Some h = subst (λ (x : MachineView). holding x.slots ppn ≡ Some h) e f in cc

own_held : (d : DomainView) (client : ℕ) (slot : Slot) → is_of client (held_in d.machines slot) ≡ true → held_in (after_release client slot d).machines slot ≡ None
own_held d client slot is =
    let x = a_holding client (held_in d.machines slot) is in
    ap (λ (b : Bool). held_in (let y : DomainView = cond b (with_machines d (with_released slot d.machines)) d in y.machines) slot) is ∙ within x.0 x.1 (cases_lt slot.machine (length d.machines)) where
      within : (h : Holding) → held_in d.machines slot ≡ Some h → (slot.machine < length d.machines) ⊎ (length d.machines ≤ slot.machine) → held_in (with_released slot d.machines) slot ≡ None
      within h e (inr l) = absurd (none_past slot.ppn (machine_at d.machines slot.machine) h (get_or_past d.machines slot.machine no_machine l) e)
      within h e (inl l) =
          ap (λ (v : MachineView). holding v.slots slot.ppn) (get_or-set_same d.machines slot.machine (released slot.ppn (machine_at d.machines slot.machine)) no_machine l)
          ∙ ap (λ (o : Option Holding). holding (released_by (machine_at d.machines slot.machine) slot.ppn o).slots slot.ppn) e
          ∙ set_same (machine_at d.machines slot.machine).slots slot.ppn None (held_within (machine_at d.machines slot.machine).slots slot.ppn h e)

still : (o : Option Holding) (client : ℕ) → is_of client o ≡ true → is_none o ≡ false
still None client e = cc
still (Some h) client e = refl

loses_only : (d : DomainView) (client_of : ℕ → ℕ) (given slots : List (Option Slot)) (p : ℕ) (slot : Slot) → Owns d client_of given slots → slice_get given p ≡ Some (Some slot) →
    LosesOnly (after_release (client_of p) slot d) slots p
loses_only d client_of given slots p slot o e = record {
  other = λ q s f ne.
      let in_given : slice_get given q ≡ Some (Some s) = o.own q s f in
      ap is_none (other_held d (client_of p) slot s (λ k. ne (o.apart q p slot (in_given ∙ ap (λ (v : Slot). Some (Some v)) k) e))) ∙ still (held_in d.machines s) (client_of q) (o.held q s in_given);
  own = λ s f.
      let in_given : slice_get given p ≡ Some (Some s) = o.own p s f in
      let is : s ≡ slot = cc in
      ap (λ (v : Slot). is_none (held_in (after_release (client_of p) slot d).machines v)) is ∙ ap is_none (own_held d (client_of p) slot (o.held p slot e));
}

-- a place that was set to none has no slot
no_slot : (xs : List (Option Slot)) (p : ℕ) (s : Slot) → slice_get (slice_set xs p None) p ≡ Some (Some s) → ⊥
no_slot [] p s f = cc
no_slot (x ∷ xs) zero s f = cc
no_slot (x ∷ xs) (suc p) s f = no_slot xs p s f

-- a slot that is still there is that of another place
still_there : (xs : List (Option Slot)) (p q : ℕ) (s : Slot) → slice_get (slice_set xs p None) q ≡ Some (Some s) → (q ≡ p → ⊥) × (slice_get xs q ≡ Some (Some s))
still_there xs p q s f = pick (cases_eq q p) where
  pick : (q ≡ p) ⊎ (q ≡ p → ⊥) → (q ≡ p → ⊥) × (slice_get xs q ≡ Some (Some s))
  pick (inl k) = absurd (no_slot xs p s (ap (λ (i : ℕ). slice_get (slice_set xs p None) i) (sym k) ∙ f))
  pick (inr ne) = (ne, sym (got_other xs p q None ne) ∙ f)

owns_then : (d : DomainView) (client_of : ℕ → ℕ) (given slots : List (Option Slot)) (p : ℕ) (slot : Slot) → Owns d client_of given slots → slice_get given p ≡ Some (Some slot) →
    Owns (after_release (client_of p) slot d) client_of (slice_set given p None) (slice_set slots p None)
owns_then d client_of given slots p slot o e = record {
  held = λ q s f.
      let k = still_there given p q s f in
      ap (is_of (client_of q)) (other_held d (client_of p) slot s (λ j. k.0 (o.apart q p slot (k.1 ∙ ap (λ (v : Slot). Some (Some v)) j) e))) ∙ o.held q s k.1;
  apart = λ q r s f g. o.apart q r s (still_there given p q s f).1 (still_there given p r s g).1;
  own = λ q s f.
      let k = still_there slots p q s f in
      got_other given p q None k.0 ∙ o.own q s k.1;
}

none_shown : (new : DomainView) (slots : List (Option Slot)) (w : Mappings) (p : ℕ) → LosesOnly new slots p → ((page : Page) → slice_get w.pages p ≡ Some page → is_bare page.view ≡ false) →
    NoneShown new slots w
none_shown new slots w p l clear q None page e f lost = cc
none_shown new slots w p l clear q (Some s) page e f lost = pick (cases_eq q p) where
  pick : (q ≡ p) ⊎ (q ≡ p → ⊥) → is_bare page.view ≡ false
  pick (inl k) = clear page (ap (λ (i : ℕ). slice_get w.pages i) (sym k) ∙ f)
  pick (inr ne) = absurd (let kept : is_lost new (Some s) ≡ false = l.other q s e ne in let both : true ≡ false = sym lost ∙ kept in cc)

pub releases_own : ReleasesOwn
releases_own number d client_of given slots w p slot a o e clear =
    let l : LosesOnly (after_release (client_of p) slot d) slots p = loses_only d client_of given slots p slot o e in
    let at : 0 + p ≡ p = omega arith in
    let events : releases (after_release (client_of p) slot d) 0 slots ≡ release_of p (slice_get slots p) =
    only_releases (after_release (client_of p) slot d) slots 0 p l ∙ ap (λ (i : ℕ). release_of i (slice_get slots p)) at in
    record {
      events = events;
      plays = subst (λ (es : List Event). Plays w es (Agrees number (after_release (client_of p) slot d) (slice_set slots p None))) events
          (subst (λ (ss : List (Option Slot)). Plays w (releases (after_release (client_of p) slot d) 0 slots) (Agrees number (after_release (client_of p) slot d) ss)) (only_left (after_release (client_of p) slot d) slots p l)
          (releases_by_events number d slots w (client_of p) slot a (none_shown (after_release (client_of p) slot d) slots w p l clear)));
      owns = owns_then d client_of given slots p slot o e;
    }

pub release_refused : ReleaseIsRefused
release_refused w p page e b =
    ap (λ (o : Option Page). option_map (with_page w p) (option_and_then windows.released o)) e ∙ ap (λ (c : Bool). option_map (with_page w p) (cond c None (Some (record page { held = None; frame_fresh = false })))) b
