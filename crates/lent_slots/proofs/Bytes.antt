-- The bytes of slots stay as others are lent and released.
use Rattle.std.proofs.Common.{◌≡◌, ℕ, ◌≤◌, ◌==◌, Bool, true, false, cond, List, Option, Some, None, refl, ap, sym, subst, ◌∙◌, ◌⊎◌, inl, inr, arith}
use Rattle.std.specs.Prelude.{slice_set}
use Rattle.std.proofs.lemmas.Bool.{cases_eq, eqb-true}
use Rattle.std.proofs.lemmas.List.{get_or-set_same, get_or-set_other}
use Rattle.std.proofs.lemmas.Option.{none-some}
use Rattle.machine_frames.specs.FrameMap.{FrameMap, frame, IsTaken}
use Rattle.lent_slots.specs.declared.holding.Holding.{Holding}
use Rattle.lent_slots.specs.declared.holding.PageLoan.{PageLoan}
use Rattle.lent_slots.specs.Slots.{MachineView, holding, sharers, left_free, with_free, without, released_by, released, LendsPage}
use Rattle.lent_slots.specs.Totals.{FramesOfSlots}
use Rattle.lent_slots.specs.Bytes.{BytesStayIn}
use Rattle.lent_slots.proofs.SlotLists.{held_within, set_same, set_other, unshared}
use Rattle.lent_slots.proofs.Moves.{not_taken}

-- each slot that is held was held before, and reads the bytes that it read
pub record Keeps (old new : MachineView) : Type 0 where
  pub was : (ppn : ℕ) (h : Holding) → holding new.slots ppn ≡ Some h → holding old.slots ppn ≡ Some h
  pub bytes : (ppn : ℕ) (h : Holding) → holding new.slots ppn ≡ Some h → frame new.frames h.frame ≡ frame old.frames h.frame

pub keeps_same : (m : MachineView) → Keeps m m
keeps_same m = record { was = λ ppn h e. e; bytes = λ ppn h e. refl }

-- a frame that a slot has isn't freed
freed_bytes : (frames : FrameMap) (slots : List (Option Holding)) (mpn q : ℕ) (h : Holding) → holding slots q ≡ Some h → frame (with_free frames (left_free slots mpn)) h.frame ≡ frame frames h.frame
freed_bytes frames slots mpn q h held = pick (sharers mpn slots == 0) refl where
  pick : (b : Bool) → (sharers mpn slots == 0) ≡ b → frame (with_free frames (cond b (Some mpn) None)) h.frame ≡ frame frames h.frame
  pick false e = refl
  pick true e = split (cases_eq h.frame mpn) where
    split : ((h.frame ≡ mpn) ⊎ (h.frame ≡ mpn → ⊥)) → frame (slice_set frames mpn None) h.frame ≡ frame frames h.frame
    split (inl is) = absurd (unshared mpn slots q h (eqb-true (sharers mpn slots) 0 e) held is)
    split (inr ne) = get_or-set_other frames mpn h.frame None None ne

keeps_without : (m : MachineView) (ppn : ℕ) (h : Holding) → holding m.slots ppn ≡ Some h → Keeps m (without m ppn h.frame)
keeps_without m ppn h held = record {
  was = λ q x is. was q x (cases_eq q ppn) is;
  bytes = λ q x is. freed_bytes m.frames (slice_set m.slots ppn None) h.frame q x is;
} where
  was : (q : ℕ) (x : Holding) → ((q ≡ ppn) ⊎ (q ≡ ppn → ⊥)) → holding (slice_set m.slots ppn None) q ≡ Some x → holding m.slots q ≡ Some x
  was q x (inl e) is = absurd (none-some x (sym (ap (holding (slice_set m.slots ppn None)) e ∙ set_same m.slots ppn None (held_within m.slots ppn h held)) ∙ is))
  was q x (inr ne) is = sym (set_other m.slots ppn q None ne) ∙ is

-- a release
pub keeps_released : (ppn : ℕ) (m : MachineView) → Keeps m (released ppn m)
keeps_released ppn m = pick (holding m.slots ppn) refl where
  pick : (o : Option Holding) → holding m.slots ppn ≡ o → Keeps m (released_by m ppn o)
  pick None e = keeps_same m
  pick (Some h) e = keeps_without m ppn h e

pub bytes_by_release : (ppn : ℕ) (old new : MachineView) → new ≡ released ppn old → BytesStayIn old new
bytes_by_release ppn old new e =
    subst (λ (m : MachineView). BytesStayIn old m) (sym e) (record { stay = λ q h was now. (keeps_released ppn old).bytes q h now })

-- a frame that a slot has is in use
in_use : (m : MachineView) (q : ℕ) (h : Holding) → FramesOfSlots m → holding m.slots q ≡ Some h → IsTaken m.frames h.frame
in_use m q h owned held = (owned h.frame).1 (some (cases_eq (sharers h.frame m.slots) 0)) where
  some : ((sharers h.frame m.slots ≡ 0) ⊎ (sharers h.frame m.slots ≡ 0 → ⊥)) → 1 ≤ sharers h.frame m.slots
  some (inl none) = absurd (unshared h.frame m.slots q h none held refl)
  some (inr ne) = omega (arith, ne)

-- a lend
pub bytes_by_lend : (client : ℕ) (page : List ℕ) (loan : PageLoan) (old new : MachineView) → FramesOfSlots old → LendsPage client page loan old new → BytesStayIn old new
bytes_by_lend client page loan old new owned l = record { stay = λ q h was now. stay q h was (cases_eq h.frame loan.frame) } where
  after : FrameMap
  after = slice_set old.frames loan.frame (Some page)

  held : IsTaken old.frames loan.frame → ((frame old.frames loan.frame ≡ None) ⊎ (frame old.frames loan.frame ≡ Some page)) → frame old.frames loan.frame ≡ Some page
  held taken (inl none) = absurd (not_taken (frame old.frames loan.frame) none taken)
  held taken (inr same) = same

  stay : (q : ℕ) (h : Holding) → holding old.slots q ≡ Some h → ((h.frame ≡ loan.frame) ⊎ (h.frame ≡ loan.frame → ⊥)) → frame new.frames h.frame ≡ frame old.frames h.frame
  stay q h was (inl e) =
      let taken : IsTaken old.frames loan.frame = subst (λ (i : ℕ). IsTaken old.frames i) e (in_use old q h owned was) in
      ap (λ (m : MachineView). frame m.frames h.frame) l.now ∙ ap (frame (slice_set old.frames loan.frame (Some page))) e
      ∙ get_or-set_same old.frames loan.frame (Some page) None l.within ∙ sym (held taken l.held) ∙ ap (frame old.frames) (sym e)
  stay q h was (inr ne) = ap (λ (m : MachineView). frame m.frames h.frame) l.now ∙ get_or-set_other old.frames loan.frame h.frame (Some page) None ne
