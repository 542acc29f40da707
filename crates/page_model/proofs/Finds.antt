-- The page that a search finds passes its test.
use Rattle.std.proofs.Common.{◌≡◌, ℕ, zero, suc, ◌+◌, Bool, true, false, cond, List, [], ◌∷◌, Option, Some, None, refl, ap, sym, ◌∙◌, arith}
use Rattle.std.specs.Prelude.{slice_get}
use Rattle.std.specs.Option.{option_map}
use Rattle.page_model.specs.Pages.{Slot, Guest, slot_from, or_else, page_from, find_page, page_at}

record SlotFound (p : Slot → Bool) (slots : List Slot) (n b : ℕ) : Type 0 where
  index : ℕ
  is : b ≡ n + index
  slot : Slot
  at : slice_get slots index ≡ Some slot
  passes : p slot ≡ true

slot_choice : (p : Slot → Bool) (s : Slot) (slots : List Slot) (n b : ℕ) → (slot_from p (n + 1) slots ≡ Some b → SlotFound p slots (n + 1) b) → (t : Bool) → p s ≡ t → cond t (Some n) (slot_from p (n + 1) slots) ≡ Some b → SlotFound p (s ∷ slots) n b
slot_choice p s slots n b rest true e h =
    let same : n ≡ b = cc in
    record { index = 0; is = omega arith; slot = s; at = refl; passes = e }
slot_choice p s slots n b rest false e h =
    let found = rest h in
    record { index = suc found.index; is = omega (arith, found.is); slot = found.slot; at = found.at; passes = found.passes }

slot_found : (p : Slot → Bool) (slots : List Slot) (n b : ℕ) → slot_from p n slots ≡ Some b → SlotFound p slots n b
slot_found p [] n b h = cc
slot_found p (s ∷ slots) n b h = slot_choice p s slots n b (slot_found p slots (n + 1) b) (p s) refl h

pub record Found (p : Slot → Bool) (gs : List Guest) (n a b : ℕ) : Type 0 where
  pub index : ℕ
  pub is : a ≡ n + index
  pub salt : ℕ
  pub slot : Slot
  pub at : page_at gs index b ≡ Some (salt, slot)
  pub passes : p slot ≡ true

page_choice : (p : Slot → Bool) (g : Guest) (gs : List Guest) (n a b : ℕ) → (page_from p (n + 1) gs ≡ Some (a, b) → Found p gs (n + 1) a b) → (o : Option ℕ) → slot_from p 0 g.slots ≡ o → or_else n o (page_from p (n + 1) gs) ≡ Some (a, b) → Found p (g ∷ gs) n a b
page_choice p g gs n a b rest None e h =
    let found = rest h in
    record { index = suc found.index; is = omega (arith, found.is); salt = found.salt; slot = found.slot; at = found.at; passes = found.passes }
page_choice p g gs n a b rest (Some m) e h =
    let mine : ℕ × ℕ = (n, m) in
    let given : ℕ × ℕ = (a, b) in
    let pair : mine ≡ given = cc in
    let first : n ≡ a = ap (λ (x : ℕ × ℕ). x.0) pair in
    let second : m ≡ b = ap (λ (x : ℕ × ℕ). x.1) pair in
    let found = slot_found p g.slots 0 m e in
    let index : b ≡ found.index = omega (arith, found.is) in
    record {
      index = 0;
      is = omega arith;
      salt = g.salt;
      slot = found.slot;
      at = ap (λ (o : Option Slot). option_map {U = ℕ × Slot} (λ slot. (g.salt, slot)) o) (ap (slice_get g.slots) index ∙ found.at);
      passes = found.passes;
    }

page_found : (p : Slot → Bool) (gs : List Guest) (n a b : ℕ) → page_from p n gs ≡ Some (a, b) → Found p gs n a b
page_found p [] n a b h = cc
page_found p (g ∷ gs) n a b h = page_choice p g gs n a b (page_found p gs (n + 1) a b) (slot_from p 0 g.slots) refl h

-- a search for a page
pub find_page_passes : (p : Slot → Bool) (gs : List Guest) (a b : ℕ) → find_page p gs ≡ Some (a, b) → (salt : ℕ) × (slot : Slot) × (page_at gs a b ≡ Some (salt, slot)) × (p slot ≡ true)
find_page_passes p gs a b h =
    let found = page_found p gs 0 a b h in
    let index : found.index ≡ a = omega (arith, found.is) in
    (found.salt, found.slot, ap (λ i. page_at gs i b) (sym index) ∙ found.at, found.passes)

skip_slot : (p : Slot → Bool) (s : Slot) (slots : List Slot) (n : ℕ) (t : Bool) → p s ≡ t → cond t (Some n) (slot_from p (n + 1) slots) ≡ None → (p s ≡ false) × (slot_from p (n + 1) slots ≡ None)
skip_slot p s slots n true e h = absurd (some_not_none n h) where
  some_not_none : (x : ℕ) → Some x ≡ None → ⊥
  some_not_none x e = cc
skip_slot p s slots n false e h = (e, h)

slot_none : (p : Slot → Bool) (slots : List Slot) (n b : ℕ) (x : Slot) → slot_from p n slots ≡ None → slice_get slots b ≡ Some x → p x ≡ false
slot_none p [] n b x h at = cc
slot_none p (s ∷ slots) n zero x h at =
    let rest = skip_slot p s slots n (p s) refl h in
    let e : s ≡ x = cc in
    ap p (sym e) ∙ rest.0
slot_none p (s ∷ slots) n (suc b) x h at = let rest = skip_slot p s slots n (p s) refl h in slot_none p slots (n + 1) b x rest.1 at

skip_guest : (n : ℕ) (o : Option ℕ) (later : Option (ℕ × ℕ)) → or_else n o later ≡ None → (o ≡ None) × (later ≡ None)
skip_guest n None later h = (refl, h)
skip_guest n (Some m) later h = absurd (some_not_none h) where
  some_not_none : {x : ℕ × ℕ} → Some x ≡ None → ⊥
  some_not_none e = cc

here_slot : (own salt : ℕ) (o : Option Slot) (x : Slot) → option_map {U = ℕ × Slot} (λ slot. (own, slot)) o ≡ Some (salt, x) → o ≡ Some x
here_slot own salt None x h = absurd (cc)
here_slot own salt (Some s) x h =
    let mine : ℕ × Slot = (own, s) in
    let given : ℕ × Slot = (salt, x) in
    let e : mine ≡ given = cc in
    ap (λ (y : ℕ × Slot). Some y.1) e

page_none : (p : Slot → Bool) (gs : List Guest) (n a b salt : ℕ) (x : Slot) → page_from p n gs ≡ None → page_at gs a b ≡ Some (salt, x) → p x ≡ false
page_none p [] n a b salt x h at = cc
page_none p (g ∷ gs) n zero b salt x h at =
    let parts = skip_guest n (slot_from p 0 g.slots) (page_from p (n + 1) gs) h in
    slot_none p g.slots 0 b x parts.0 (here_slot g.salt salt (slice_get g.slots b) x at)
page_none p (g ∷ gs) n (suc a) b salt x h at =
    let parts = skip_guest n (slot_from p 0 g.slots) (page_from p (n + 1) gs) h in
    page_none p gs (n + 1) a b salt x parts.1 at

-- a search that finds nothing
pub find_page_none : (p : Slot → Bool) (gs : List Guest) (a b salt : ℕ) (x : Slot) → find_page p gs ≡ None → page_at gs a b ≡ Some (salt, x) → p x ≡ false
find_page_none p gs a b salt x h at = page_none p gs 0 a b salt x h at
