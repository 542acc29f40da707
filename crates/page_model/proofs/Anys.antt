-- Whether a page passes a test, and how many do.
use Rattle.std.proofs.Common.{◌≡◌, ℕ, suc, ◌+◌, ◌≤◌, Bool, true, false, cond, ◌||◌, List, [], ◌∷◌, Option, Some, refl, ap, arith, ◌⊎◌, inl, inr}
use Rattle.std.specs.Prelude.{slice_get, count_by}
use Rattle.std.specs.List.{list_any}
use Rattle.std.specs.Option.{option_map}
use Rattle.std.proofs.lemmas.List.Sums.{sum_by-cons}
use Rattle.page_model.specs.Pages.{Slot, Guest, count_pages, any_page, page_at}

abbrev pub AnyIsCount : Bool → ℕ → Type 0
AnyIsCount any count = ((any ≡ true) × (1 ≤ count)) ⊎ ((any ≡ false) × (count ≡ 0))

pub joined : (t u : Bool) (m n k : ℕ) → AnyIsCount t m → AnyIsCount u n → k ≡ m + n → AnyIsCount (t || u) k
joined true u m n k (inl h) y e = inl (refl, omega (arith, h.1, e))
joined true u m n k (inr h) y e = absurd (cc)
joined false u m n k (inl h) y e = absurd (cc)
joined false u m n k (inr h) (inl j) e = inl (j.0, omega (arith, j.1, e))
joined false u m n k (inr h) (inr j) e = inr (j.0, omega (arith, h.1, j.1, e))

pub one_of : (t : Bool) → AnyIsCount t (cond t 1 0)
one_of true = inl (refl, omega arith)
one_of false = inr (refl, refl)

any_in : (q : Slot → Bool) (slots : List Slot) → AnyIsCount (list_any q slots) (count_by q slots)
any_in q [] = inr (refl, refl)
any_in q (s ∷ slots) = joined (q s) (list_any q slots) (cond (q s) 1 0) (count_by q slots) (count_by q (s ∷ slots)) (one_of (q s)) (any_in q slots) (sum_by-cons (λ (x : Slot). cond (q x) 1 0) s slots)

pub any_is_count : (p : ℕ → Slot → Bool) (gs : List Guest) → AnyIsCount (any_page p gs) (count_pages p gs)
any_is_count p [] = inr (refl, refl)
any_is_count p (g ∷ gs) = joined (list_any (p g.salt) g.slots) (any_page p gs) (count_by (p g.salt) g.slots) (count_pages p gs) (count_pages p (g ∷ gs)) (any_in (p g.salt) g.slots) (any_is_count p gs) (sum_by-cons (λ (x : Guest). count_by (p x.salt) x.slots) g gs)

none_in : (salt : ℕ) (q : Slot → Bool) (slots : List Slot) → ((b : ℕ) (x : Slot) → slice_get slots b ≡ Some x → q x ≡ false) → list_any q slots ≡ false
none_in salt q [] h = refl
none_in salt q (s ∷ slots) h = rw (h 0 s refl) (none_in salt q slots (λ b x e. h (suc b) x e))

-- no page passes
pub none_passes : (p : ℕ → Slot → Bool) (gs : List Guest) → ((a b salt : ℕ) (x : Slot) → page_at gs a b ≡ Some (salt, x) → p salt x ≡ false) → any_page p gs ≡ false
none_passes p [] h = refl
none_passes p (g ∷ gs) h =
    rw (none_in g.salt (p g.salt) g.slots (λ b x e. h 0 b g.salt x (ap (λ (o : Option Slot). option_map {U = ℕ × Slot} (λ s. (g.salt, s)) o) e))) (none_passes p gs (λ a b salt x e. h (suc a) b salt x e))

-- a page that passes
pub record Passing (p : ℕ → Slot → Bool) (gs : List Guest) : Type 0 where
  pub guest : ℕ
  pub ppn : ℕ
  pub salt : ℕ
  pub slot : Slot
  pub at : page_at gs guest ppn ≡ Some (salt, slot)
  pub passes : p salt slot ≡ true

record SlotPassing (q : Slot → Bool) (slots : List Slot) : Type 0 where
  index : ℕ
  slot : Slot
  at : slice_get slots index ≡ Some slot
  passes : q slot ≡ true

true_not_false : false ≡ true → ⊥
true_not_false e = cc

some_slot : (q : Slot → Bool) (s : Slot) (slots : List Slot) (t : Bool) → q s ≡ t → (t || list_any q slots) ≡ true → (list_any q slots ≡ true → SlotPassing q slots) → SlotPassing q (s ∷ slots)
some_slot q s slots true e h rest = record { index = 0; slot = s; at = refl; passes = e }
some_slot q s slots false e h rest = let r = rest h in record { index = suc r.index; slot = r.slot; at = r.at; passes = r.passes }

slot_passing : (q : Slot → Bool) (slots : List Slot) → list_any q slots ≡ true → SlotPassing q slots
slot_passing q [] h = absurd (true_not_false h)
slot_passing q (s ∷ slots) h = some_slot q s slots (q s) refl h (slot_passing q slots)

some_guest : (p : ℕ → Slot → Bool) (g : Guest) (gs : List Guest) (t : Bool) → list_any (p g.salt) g.slots ≡ t → (t || any_page p gs) ≡ true → (any_page p gs ≡ true → Passing p gs) → Passing p (g ∷ gs)
some_guest p g gs true e h rest =
    let r = slot_passing (p g.salt) g.slots e in
    record { guest = 0; ppn = r.index; salt = g.salt; slot = r.slot; at = ap (λ (o : Option Slot). option_map {U = ℕ × Slot} (λ s. (g.salt, s)) o) r.at; passes = r.passes }
some_guest p g gs false e h rest = let r = rest h in record { guest = suc r.guest; ppn = r.ppn; salt = r.salt; slot = r.slot; at = r.at; passes = r.passes }

pub page_passing : (p : ℕ → Slot → Bool) (gs : List Guest) → any_page p gs ≡ true → Passing p gs
page_passing p [] h = absurd (true_not_false h)
page_passing p (g ∷ gs) h = some_guest p g gs (list_any (p g.salt) g.slots) refl h (page_passing p gs)
