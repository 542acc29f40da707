-- The guests of a machine once all pages of other salts are unmapped.
use Rattle.std.proofs.Common.{◌≡◌, ℕ, zero, suc, ◌+◌, ◌≤◌, Bool, true, false, cond, ◌||◌, List, [], ◌∷◌, Option, Some, None, refl, ap, sym, ◌∙◌, arith}
use Rattle.std.specs.Prelude.{slice_get, slice_set, count_by, nat_eq}
use Rattle.std.specs.List.{list_any}
use Rattle.std.specs.Option.{option_map}
use Rattle.std.proofs.lemmas.Bool.{eqb-true}
use Rattle.std.proofs.lemmas.List.Sums.{sum_by-cons}
use Rattle.page_model.specs.Pages.{Slot, Unmapped, Private, Shared, Guest, is_private, is_shared_as, count_pages, any_page, peers, distinct_in, distinct, used, slot_from, or_else, page_from, find_page, page_at, with_slot}
use Rattle.page_model.proofs.Used.{own_slot}

-- as many pages, all unmapped
abbrev pub emptied : List Slot → List Slot
emptied [] = []
emptied (x ∷ slots) = Unmapped ∷ emptied slots

-- the guest as it is, or with all pages unmapped
abbrev pub shown : Bool → Guest → Guest
shown true g = g
shown false g = record { salt = g.salt; slots = emptied g.slots }

-- the guests once all pages of other salts are unmapped
abbrev pub only : ℕ → List Guest → List Guest
only salt [] = []
only salt (g ∷ gs) = shown (nat_eq g.salt salt) g ∷ only salt gs

-- whether there is such a guest and it has this salt
abbrev pub owns : ℕ → List Guest → ℕ → Bool
owns salt [] a = false
owns salt (g ∷ gs) zero = nat_eq g.salt salt
owns salt (g ∷ gs) (suc a) = owns salt gs a

-- a change of a page leaves the salts
pub owns_with : (salt : ℕ) (gs : List Guest) (a b : ℕ) (x : Slot) (c : ℕ) → owns salt (with_slot gs a b x) c ≡ owns salt gs c
owns_with salt [] a b x c = refl
owns_with salt (g ∷ gs) zero b x zero = refl
owns_with salt (g ∷ gs) zero b x (suc c) = refl
owns_with salt (g ∷ gs) (suc a) b x zero = refl
owns_with salt (g ∷ gs) (suc a) b x (suc c) = owns_with salt gs a b x c

-- the salt of a page is its guest's
pub owns_page : (salt : ℕ) (gs : List Guest) (a b t : ℕ) (x : Slot) → page_at gs a b ≡ Some (t, x) → owns salt gs a ≡ nat_eq t salt
owns_page salt [] a b t x h = cc
owns_page salt (g ∷ gs) zero b t x h = let own = own_slot g.salt t (slice_get g.slots b) x h in ap (λ i. nat_eq i salt) own.0
owns_page salt (g ∷ gs) (suc a) b t x h = owns_page salt gs a b t x h

emptied_set : (slots : List Slot) (b : ℕ) (x : Slot) → emptied (slice_set slots b x) ≡ emptied slots
emptied_set [] b x = refl
emptied_set (s ∷ slots) zero x = refl
emptied_set (s ∷ slots) (suc b) x = ap (λ rest. Unmapped ∷ rest) (emptied_set slots b x)

-- a change of a page of this salt, and of another's
pub only_own : (salt : ℕ) (gs : List Guest) (a b : ℕ) (x : Slot) → owns salt gs a ≡ true → only salt (with_slot gs a b x) ≡ with_slot (only salt gs) a b x
only_own salt [] a b x h = refl
only_own salt (g ∷ gs) zero b x h = rw h refl
only_own salt (g ∷ gs) (suc a) b x h = ap (λ rest. shown (nat_eq g.salt salt) g ∷ rest) (only_own salt gs a b x h)

pub only_other : (salt : ℕ) (gs : List Guest) (a b : ℕ) (x : Slot) → owns salt gs a ≡ false → only salt (with_slot gs a b x) ≡ only salt gs
only_other salt [] a b x h = refl
only_other salt (g ∷ gs) zero b x h =
    rw h (ap (λ (slots : List Slot). let g' : Guest = record { salt = g.salt; slots = slots } in g' ∷ only salt gs) (emptied_set g.slots b x))
only_other salt (g ∷ gs) (suc a) b x h = ap (λ rest. shown (nat_eq g.salt salt) g ∷ rest) (only_other salt gs a b x h)

-- a page of this salt, and a guest
pub only_page : (salt : ℕ) (gs : List Guest) (a b : ℕ) → owns salt gs a ≡ true → page_at (only salt gs) a b ≡ page_at gs a b
only_page salt [] a b h = refl
only_page salt (g ∷ gs) zero b h = rw h refl
only_page salt (g ∷ gs) (suc a) b h = only_page salt gs a b h

pub only_guest : (salt : ℕ) (gs : List Guest) (a : ℕ) → owns salt gs a ≡ true → slice_get (only salt gs) a ≡ slice_get gs a
only_guest salt [] a h = refl
only_guest salt (g ∷ gs) zero h = rw h refl
only_guest salt (g ∷ gs) (suc a) h = only_guest salt gs a h

-- no page of another salt passes this test
pub record OthersFail (salt : ℕ) (p : ℕ → Slot → Bool) (gs : List Guest) : Type 0 where
  pub each : (a b t : ℕ) (x : Slot) → page_at gs a b ≡ Some (t, x) → nat_eq t salt ≡ false → p t x ≡ false
  pub unmapped : (t : ℕ) → p t Unmapped ≡ false

others_tail : (salt : ℕ) (p : ℕ → Slot → Bool) (g : Guest) (gs : List Guest) → OthersFail salt p (g ∷ gs) → OthersFail salt p gs
others_tail salt p g gs fail = record { each = λ a b t x h. fail.each (suc a) b t x h; unmapped = fail.unmapped }

-- so no page of the first guest does, if it has another salt
others_head : (salt : ℕ) (p : ℕ → Slot → Bool) (g : Guest) (gs : List Guest) → OthersFail salt p (g ∷ gs) → nat_eq g.salt salt ≡ false → (b : ℕ) (x : Slot) → slice_get g.slots b ≡ Some x → p g.salt x ≡ false
others_head salt p g gs fail e b x at = fail.each 0 b g.salt x (ap (λ (o : Option Slot). option_map {U = ℕ × Slot} (λ s. (g.salt, s)) o) at) e

none_in : (q : Slot → Bool) (slots : List Slot) → ((b : ℕ) (x : Slot) → slice_get slots b ≡ Some x → q x ≡ false) → list_any q slots ≡ false
none_in q [] h = refl
none_in q (s ∷ slots) h = rw (h 0 s refl) (none_in q slots (λ b x e. h (suc b) x e))

emptied_fail : (q : Slot → Bool) (slots : List Slot) → q Unmapped ≡ false → (b : ℕ) (x : Slot) → slice_get (emptied slots) b ≡ Some x → q x ≡ false
emptied_fail q [] h b x at = cc
emptied_fail q (s ∷ slots) h zero x at = let e : Unmapped ≡ x = cc in ap q (sym e) ∙ h
emptied_fail q (s ∷ slots) h (suc b) x at = emptied_fail q slots h b x at

-- whether some page passes
any_head : (salt : ℕ) (p : ℕ → Slot → Bool) (g : Guest) (gs : List Guest) → OthersFail salt p (g ∷ gs) → (t : Bool) → nat_eq g.salt salt ≡ t → list_any (p (shown t g).salt) (shown t g).slots ≡ list_any (p g.salt) g.slots
any_head salt p g gs fail true e = refl
any_head salt p g gs fail false e =
    none_in (p g.salt) (emptied g.slots) (emptied_fail (p g.salt) g.slots (fail.unmapped g.salt)) ∙ sym (none_in (p g.salt) g.slots (others_head salt p g gs fail e))

pub any_only : (salt : ℕ) (p : ℕ → Slot → Bool) (gs : List Guest) → OthersFail salt p gs → any_page p (only salt gs) ≡ any_page p gs
any_only salt p [] fail = refl
any_only salt p (g ∷ gs) fail =
    ap (λ r. r || any_page p (only salt gs)) (any_head salt p g gs fail (nat_eq g.salt salt) refl)
    ∙ ap (λ r. list_any (p g.salt) g.slots || r) (any_only salt p gs (others_tail salt p g gs fail))

-- how many pages pass
none_counted : (q : Slot → Bool) (slots : List Slot) → ((b : ℕ) (x : Slot) → slice_get slots b ≡ Some x → q x ≡ false) → count_by q slots ≡ 0
none_counted q [] h = refl
none_counted q (s ∷ slots) h =
    let f : ◌≡◌ {A = ℕ} (cond (q s) 1 0) 0 = ap (λ t. cond t 1 0) (h 0 s refl) in
    omega (arith, none_counted q slots (λ b x e. h (suc b) x e), sum_by-cons (λ (x : Slot). cond (q x) 1 0) s slots, f)

count_head : (salt : ℕ) (p : ℕ → Slot → Bool) (g : Guest) (gs : List Guest) → OthersFail salt p (g ∷ gs) → (t : Bool) → nat_eq g.salt salt ≡ t → count_by (p (shown t g).salt) (shown t g).slots ≡ count_by (p g.salt) g.slots
count_head salt p g gs fail true e = refl
count_head salt p g gs fail false e =
    none_counted (p g.salt) (emptied g.slots) (emptied_fail (p g.salt) g.slots (fail.unmapped g.salt)) ∙ sym (none_counted (p g.salt) g.slots (others_head salt p g gs fail e))

pub count_only : (salt : ℕ) (p : ℕ → Slot → Bool) (gs : List Guest) → OthersFail salt p gs → count_pages p (only salt gs) ≡ count_pages p gs
count_only salt p [] fail = refl
count_only salt p (g ∷ gs) fail =
    omega (
      arith,
      count_only salt p gs (others_tail salt p g gs fail),
      count_head salt p g gs fail (nat_eq g.salt salt) refl,
      sum_by-cons (λ (x : Guest). count_by (p x.salt) x.slots) g gs,
      sum_by-cons (λ (x : Guest). count_by (p x.salt) x.slots) (shown (nat_eq g.salt salt) g) (only salt gs),
    )

-- which page passes first
none_from : (q : Slot → Bool) (n : ℕ) (slots : List Slot) → ((b : ℕ) (x : Slot) → slice_get slots b ≡ Some x → q x ≡ false) → slot_from q n slots ≡ None
none_from q n [] h = refl
none_from q n (s ∷ slots) h = rw (h 0 s refl) (none_from q (n + 1) slots (λ b x e. h (suc b) x e))

find_head : (salt : ℕ) (q : Slot → Bool) (g : Guest) (gs : List Guest) → OthersFail salt (λ _. q) (g ∷ gs) → (t : Bool) → nat_eq g.salt salt ≡ t → slot_from q 0 (shown t g).slots ≡ slot_from q 0 g.slots
find_head salt q g gs fail true e = refl
find_head salt q g gs fail false e =
    none_from q 0 (emptied g.slots) (emptied_fail q g.slots (fail.unmapped g.salt)) ∙ sym (none_from q 0 g.slots (others_head salt (λ _. q) g gs fail e))

page_only : (salt : ℕ) (q : Slot → Bool) (n : ℕ) (gs : List Guest) → OthersFail salt (λ _. q) gs → page_from q n (only salt gs) ≡ page_from q n gs
page_only salt q n [] fail = refl
page_only salt q n (g ∷ gs) fail =
    ap (λ o. or_else n o (page_from q (n + 1) (only salt gs))) (find_head salt q g gs fail (nat_eq g.salt salt) refl)
    ∙ ap (λ later. or_else n (slot_from q 0 g.slots) later) (page_only salt q (n + 1) gs (others_tail salt (λ _. q) g gs fail))

pub find_only : (salt : ℕ) (q : Slot → Bool) (gs : List Guest) → OthersFail salt (λ _. q) gs → find_page q (only salt gs) ≡ find_page q gs
find_only salt q gs fail = page_only salt q 0 gs fail

-- shared pages of a content of this salt have this salt
content_fails : (salt : ℕ) (bytes : List ℕ) (t : ℕ) (x : Slot) → nat_eq t salt ≡ false → is_shared_as salt bytes t x ≡ false
content_fails salt bytes t Unmapped h = refl
content_fails salt bytes t (Private others hint) h = refl
content_fails salt bytes t (Shared others) h = rw h refl

pub others_content : (salt : ℕ) (bytes : List ℕ) (gs : List Guest) → OthersFail salt (is_shared_as salt bytes) gs
others_content salt bytes gs = record { each = λ a b t x h e. content_fails salt bytes t x e; unmapped = λ t. refl }

pub peers_only : (salt : ℕ) (bytes : List ℕ) (gs : List Guest) → peers salt bytes (only salt gs) ≡ peers salt bytes gs
peers_only salt bytes gs = count_only salt (is_shared_as salt bytes) gs (others_content salt bytes gs)

-- no more frames are in use than before
privates_head : (g : Guest) (t : Bool) → count_by is_private (shown t g).slots ≤ count_by is_private g.slots
privates_head g true = omega arith
privates_head g false = omega (arith, none_counted is_private (emptied g.slots) (emptied_fail is_private g.slots refl))

privates_only : (salt : ℕ) (gs : List Guest) → count_pages (λ _. is_private) (only salt gs) ≤ count_pages (λ _. is_private) gs
privates_only salt [] = omega arith
privates_only salt (g ∷ gs) =
    omega (
      arith,
      privates_only salt gs,
      privates_head g (nat_eq g.salt salt),
      sum_by-cons (λ (x : Guest). count_by is_private x.slots) g gs,
      sum_by-cons (λ (x : Guest). count_by is_private x.slots) (shown (nat_eq g.salt salt) g) (only salt gs),
    )

own_contents : (salt : ℕ) (slots : List Slot) (gs : List Guest) → distinct_in salt slots (only salt gs) ≡ distinct_in salt slots gs
own_contents salt [] gs = refl
own_contents salt (Unmapped ∷ slots) gs = own_contents salt slots gs
own_contents salt (Private bytes hint ∷ slots) gs = own_contents salt slots gs
own_contents salt (Shared bytes ∷ slots) gs =
    let e : any_page (is_shared_as salt bytes) (only salt gs) ≡ any_page (is_shared_as salt bytes) gs = any_only salt (is_shared_as salt bytes) gs (others_content salt bytes gs) in
    let again = list_any (is_shared_as salt bytes salt) slots in
    let f : ◌≡◌ {A = ℕ} (cond (again || any_page (is_shared_as salt bytes) (only salt gs)) 0 1) (cond (again || any_page (is_shared_as salt bytes) gs) 0 1) = ap (λ r. cond (again || r) 0 1) e in
    omega (arith, own_contents salt slots gs, f)

no_contents : (t : ℕ) (slots : List Slot) (gs : List Guest) → distinct_in t (emptied slots) gs ≡ 0
no_contents t [] gs = refl
no_contents t (s ∷ slots) gs = no_contents t slots gs

contents_head : (salt : ℕ) (g : Guest) (gs : List Guest) (t : Bool) → nat_eq g.salt salt ≡ t → distinct_in (shown t g).salt (shown t g).slots (only salt gs) ≤ distinct_in g.salt g.slots gs
contents_head salt g gs true e =
    let same : g.salt ≡ salt = eqb-true g.salt salt e in
    let f : distinct_in g.salt g.slots (only salt gs) ≡ distinct_in g.salt g.slots gs =
    ap (λ i. distinct_in g.salt g.slots (only i gs)) (sym same) ∙ own_contents g.salt g.slots gs in
    omega (arith, f)
contents_head salt g gs false e = omega (arith, no_contents g.salt g.slots (only salt gs))

distinct_only : (salt : ℕ) (gs : List Guest) → distinct (only salt gs) ≤ distinct gs
distinct_only salt [] = omega arith
distinct_only salt (g ∷ gs) = omega (arith, distinct_only salt gs, contents_head salt g gs (nat_eq g.salt salt) refl)

pub used_only : (salt : ℕ) (gs : List Guest) → used (only salt gs) ≤ used gs
used_only salt gs = omega (arith, privates_only salt gs, distinct_only salt gs)
