-- Lists of slots, and lists of frames that agree at each number.
use Rattle.std.proofs.Common.{◌≡◌, ◌≢◌, ℕ, zero, suc, ◌+◌, ◌<◌, Bool, true, false, cond, List, [], ◌∷◌, length, Option, Some, None, refl, ap, sym, ◌∙◌, arith}
use Rattle.std.specs.Prelude.{slice_get, slice_set}
use Rattle.std.proofs.lemmas.Bool.{eqb-true, eqb-false}
use Rattle.std.proofs.lemmas.List.{get_or-set_same, get_or-set_other}
use Rattle.std.proofs.lemmas.List.Sums.{sum_by-cons, sum_by-set}
use Rattle.machine_frames.specs.FrameMap.{FrameMap, frame}
use Rattle.lent_slots.specs.declared.holding.Holding.{Holding}
use Rattle.lent_slots.specs.Slots.{holding, has_frame, sharers}

abbrev bit : Bool → ℕ
bit b = cond b 1 0

-- two lists of frames that have the same at each number
pub frames_same : (a b : FrameMap) → length a ≡ length b → ((m : ℕ) → frame a m ≡ frame b m) → a ≡ b
frames_same [] [] e h = refl
frames_same [] (y ∷ b) e h = absurd (omega arith)
frames_same (x ∷ a) [] e h = absurd (omega arith)
frames_same (x ∷ a) (y ∷ b) e h = ap (λ (z : Option (List ℕ)). z ∷ a) (h 0) ∙ ap (λ (l : FrameMap). y ∷ l) (frames_same a b (omega arith) (λ m. h (suc m)))

-- a slot that is looked up is there
pub got_within : (slots : List (Option Holding)) (n : ℕ) (x : Option Holding) → slice_get slots n ≡ Some x → n < length slots
got_within [] n x e = cc
got_within (y ∷ slots) zero x e = omega arith
got_within (y ∷ slots) (suc n) x e = omega (arith, got_within slots n x e)

pub got_holding : (slots : List (Option Holding)) (n : ℕ) (x : Option Holding) → slice_get slots n ≡ Some x → holding slots n ≡ x
got_holding [] n x e = cc
got_holding (y ∷ slots) zero x e = let P : Option (Option Holding) → Option Holding = λ o. (cond_some o) in ap P e where
  cond_some : Option (Option Holding) → Option Holding
  cond_some None = None
  cond_some (Some z) = z
got_holding (y ∷ slots) (suc n) x e = got_holding slots n x e

-- a slot that is held is there
pub held_within : (slots : List (Option Holding)) (n : ℕ) (h : Holding) → holding slots n ≡ Some h → n < length slots
held_within [] n h e = cc
held_within (y ∷ slots) zero h e = omega arith
held_within (y ∷ slots) (suc n) h e = omega (arith, held_within slots n h e)

pub set_same : (slots : List (Option Holding)) (n : ℕ) (x : Option Holding) → n < length slots → holding (slice_set slots n x) n ≡ x
set_same slots n x h = get_or-set_same slots n x None h

pub set_other : (slots : List (Option Holding)) (n k : ℕ) (x : Option Holding) → k ≢ n → holding (slice_set slots n x) k ≡ holding slots k
set_other slots n k x h = get_or-set_other slots n k x None h

-- no slot has the frame
none_has : (mpn : ℕ) (x : Option Holding) (slots : List (Option Holding)) → sharers mpn (x ∷ slots) ≡ 0 → (has_frame mpn x ≡ false) × (sharers mpn slots ≡ 0)
none_has mpn x slots e = split (has_frame mpn x) refl (sym (sum_by-cons (λ (o : Option Holding). cond (has_frame mpn o) 1 0) x slots) ∙ e) where
  split : (b : Bool) → has_frame mpn x ≡ b → bit (has_frame mpn x) + sharers mpn slots ≡ 0 → (has_frame mpn x ≡ false) × (sharers mpn slots ≡ 0)
  split true is sum = absurd (let one : bit (has_frame mpn x) ≡ 1 = ap bit is in omega arith)
  split false is sum = (is, omega arith)

pub unshared : (mpn : ℕ) (slots : List (Option Holding)) (n : ℕ) (h : Holding) → sharers mpn slots ≡ 0 → holding slots n ≡ Some h → h.frame ≡ mpn → ⊥
unshared mpn [] n h e at f = cc
unshared mpn (x ∷ slots) zero h e at f = eqb-false h.frame mpn (sym (ap (has_frame mpn) at) ∙ (none_has mpn x slots e).0) f
unshared mpn (x ∷ slots) (suc n) h e at f = unshared mpn slots n h (none_has mpn x slots e).1 at f

-- a slot that has a frame
pub record Sharer (mpn : ℕ) (slots : List (Option Holding)) : Type 0 where
  pub ppn : ℕ
  pub h : Holding
  pub at : holding slots ppn ≡ Some h
  pub frame : h.frame ≡ mpn

here : (mpn : ℕ) (x : Option Holding) (slots : List (Option Holding)) → has_frame mpn x ≡ true → Sharer mpn (x ∷ slots)
here mpn None slots is = cc
here mpn (Some h) slots is = record { ppn = 0; h = h; at = refl; frame = eqb-true h.frame mpn is }

here_or_later : (mpn : ℕ) (x : Option Holding) (slots : List (Option Holding)) (b : Bool) → has_frame mpn x ≡ b → (sharers mpn (x ∷ slots) ≡ 0 → ⊥)
    → ((sharers mpn slots ≡ 0 → ⊥) → Sharer mpn slots) → Sharer mpn (x ∷ slots)
here_or_later mpn x slots true is some later = here mpn x slots is
here_or_later mpn x slots false is some later =
    let none : bit (has_frame mpn x) ≡ 0 = ap bit is in
    let s = later (λ e. some (sum_by-cons (λ (o : Option Holding). cond (has_frame mpn o) 1 0) x slots ∙ omega (arith, e, none))) in
    record { ppn = suc s.ppn; h = s.h; at = s.at; frame = s.frame }

pub some_sharer : (mpn : ℕ) (slots : List (Option Holding)) → (sharers mpn slots ≡ 0 → ⊥) → Sharer mpn slots
some_sharer mpn [] some = absurd (some refl)
some_sharer mpn (x ∷ slots) some = here_or_later mpn x slots (has_frame mpn x) refl some (λ n. some_sharer mpn slots n)

-- how the number of slots with a frame changes
pub sharers_set : (mpn n : ℕ) (x : Option Holding) (slots : List (Option Holding)) → n < length slots
    → sharers mpn (slice_set slots n x) + bit (has_frame mpn (holding slots n)) ≡ sharers mpn slots + bit (has_frame mpn x)
sharers_set mpn n x slots h = sum_by-set (λ (o : Option Holding). bit (has_frame mpn o)) slots n x None h
