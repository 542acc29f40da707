-- A slot that is lent was no page's, and no other slot changes.
use Rattle.std.proofs.Common.{◌≡◌, ◌∙◌, ℕ, ◌⊎◌, inl, inr, true, false, List, Option, Some, None, refl, ap, sym}
use Rattle.std.specs.Prelude.{slice_get, slice_set}
use Rattle.std.proofs.lemmas.Bool.{cases_eq, eq-eqb}
use Rattle.std.proofs.lemmas.List.{get_or-set_other}
use Rattle.lent_slots.specs.Slots.{MachineView, holding, is_of}
use Rattle.lent_slots.proofs.SlotLists.{got_within, got_holding, set_same, set_other}
use Rattle.share_domain.specs.declared.holding.Slot.{Slot}
use Rattle.share_domain.specs.declared.holding.Loan.{Loan}
use Rattle.share_domain.specs.Domains.{DomainView, machine_at, no_machine, held_in, LendsIn}
use Rattle.window_domains.proofs.Frames.{got, got_other}
use Rattle.lender_domains.specs.Owned.{LendsOwn}
use Rattle.lender_domains.proofs.Freed.{same_slot}

-- the slot was free
was_free : (m client : ℕ) (bytes : List ℕ) (loan : Loan) (d new : DomainView) → LendsIn m client bytes loan d new → held_in d.machines loan.slot ≡ None
was_free m client bytes loan d new l =
    ap (λ (k : ℕ). holding (machine_at d.machines k).slots loan.slot.ppn) l.machine ∙ got_holding (machine_at d.machines m).slots loan.slot.ppn None l.lends.was_free

-- it is the client's
is_clients : (m client : ℕ) (bytes : List ℕ) (loan : Loan) (d new : DomainView) → LendsIn m client bytes loan d new → is_of client (held_in new.machines loan.slot) ≡ true
is_clients m client bytes loan d new l =
    ap (λ (k : ℕ). is_of client (holding (machine_at new.machines k).slots loan.slot.ppn)) l.machine
    ∙ ap (λ (v : MachineView). is_of client (holding v.slots loan.slot.ppn)) l.lends.now
    ∙ ap (is_of client) (set_same (machine_at d.machines m).slots loan.slot.ppn (Some (record { client = client; frame = l.mpn })) (got_within (machine_at d.machines m).slots loan.slot.ppn None l.lends.was_free))
    ∙ eq-eqb client client refl

-- another slot stays
other_lent : (m client : ℕ) (bytes : List ℕ) (loan : Loan) (d new : DomainView) (s : Slot) → LendsIn m client bytes loan d new → (s ≡ loan.slot → ⊥) → held_in new.machines s ≡ held_in d.machines s
other_lent m client bytes loan d new s l ne = pick (cases_eq s.machine m) where
  pick : (s.machine ≡ m) ⊎ (s.machine ≡ m → ⊥) → held_in new.machines s ≡ held_in d.machines s
  pick (inr apart) =
      ap (λ (x : DomainView). held_in x.machines s) l.rest
      ∙ ap (λ (v : MachineView). holding v.slots s.ppn) (get_or-set_other d.machines m s.machine (machine_at new.machines m) no_machine apart)
  pick (inl e) =
      ap (λ (k : ℕ). holding (machine_at new.machines k).slots s.ppn) e
      ∙ ap (λ (v : MachineView). holding v.slots s.ppn) l.lends.now
      ∙ set_other (machine_at d.machines m).slots loan.slot.ppn s.ppn (Some (record { client = client; frame = l.mpn })) (λ f. ne (same_slot s loan.slot (e ∙ sym l.machine) f))
      ∙ ap (λ (k : ℕ). holding (machine_at d.machines k).slots s.ppn) (sym e)

-- a slot that somebody holds isn't one that is free
not_free : (client : ℕ) (d : DomainView) (s free : Slot) → is_of client (held_in d.machines s) ≡ true → held_in d.machines free ≡ None → s ≡ free → ⊥
not_free client d s free h e k = let none : is_of client (held_in d.machines s) ≡ false = ap (λ (v : Slot). is_of client (held_in d.machines v)) k ∙ ap (is_of client) e in let both : true ≡ false = sym h ∙ none in cc

-- the slot of a place after another was set
is_lent_there : (xs : List (Option Slot)) (p : ℕ) (slot s : Slot) → slice_get xs p ≡ Some None → slice_get (slice_set xs p (Some slot)) p ≡ Some (Some s) → s ≡ slot
is_lent_there xs p slot s e f = let g : slice_get (slice_set xs p (Some slot)) p ≡ Some (Some slot) = got xs p None (Some slot) e in cc

pub lends_own : LendsOwn
lends_own d new client_of given slots m p bytes loan l o e = record {
  held = held;
  apart = apart;
  own = λ q s f. let g : slice_get given q ≡ Some (Some s) = o.own q s f in got_other given p q (Some loan.slot) (elsewhere q s g) ∙ g;
} where
  elsewhere : (q : ℕ) (s : Slot) → slice_get given q ≡ Some (Some s) → q ≡ p → ⊥
  elsewhere q s g k = let h : slice_get given p ≡ Some (Some s) = ap (λ (i : ℕ). slice_get given i) (sym k) ∙ g in cc

  others : (q : ℕ) (s : Slot) → (q ≡ p → ⊥) → slice_get (slice_set given p (Some loan.slot)) q ≡ Some (Some s) → slice_get given q ≡ Some (Some s)
  others q s ne f = sym (got_other given p q (Some loan.slot) ne) ∙ f

  is_not : (q : ℕ) (s : Slot) → slice_get given q ≡ Some (Some s) → s ≡ loan.slot → ⊥
  is_not q s g = not_free (client_of q) d s loan.slot (o.held q s g) (was_free m (client_of p) bytes loan d new l)

  at_p : (q : ℕ) (s : Slot) → q ≡ p → slice_get (slice_set given p (Some loan.slot)) q ≡ Some (Some s) → s ≡ loan.slot
  at_p q s k f = is_lent_there given p loan.slot s e (ap (λ (i : ℕ). slice_get (slice_set given p (Some loan.slot)) i) (sym k) ∙ f)

  held : (q : ℕ) (s : Slot) → slice_get (slice_set given p (Some loan.slot)) q ≡ Some (Some s) → is_of (client_of q) (held_in new.machines s) ≡ true
  held q s f = pick (cases_eq q p) where
    pick : (q ≡ p) ⊎ (q ≡ p → ⊥) → is_of (client_of q) (held_in new.machines s) ≡ true
    pick (inl k) = ap (λ (i : ℕ). is_of (client_of i) (held_in new.machines s)) k ∙ ap (λ (v : Slot). is_of (client_of p) (held_in new.machines v)) (at_p q s k f) ∙ is_clients m (client_of p) bytes loan d new l
    pick (inr ne) =
        let g : slice_get given q ≡ Some (Some s) = others q s ne f in
        ap (is_of (client_of q)) (other_lent m (client_of p) bytes loan d new s l (is_not q s g)) ∙ o.held q s g

  apart : (q r : ℕ) (s : Slot) → slice_get (slice_set given p (Some loan.slot)) q ≡ Some (Some s) → slice_get (slice_set given p (Some loan.slot)) r ≡ Some (Some s) → q ≡ r
  apart q r s f g = pick (cases_eq q p) (cases_eq r p) where
    pick : (q ≡ p) ⊎ (q ≡ p → ⊥) → (r ≡ p) ⊎ (r ≡ p → ⊥) → q ≡ r
    pick (inl k) (inl j) = k ∙ sym j
    pick (inl k) (inr ne) = absurd (is_not r s (others r s ne g) (at_p q s k f))
    pick (inr ne) (inl j) = absurd (is_not q s (others q s ne f) (at_p r s j g))
    pick (inr ne) (inr nf) = o.apart q r s (others q s ne f) (others r s nf g)
