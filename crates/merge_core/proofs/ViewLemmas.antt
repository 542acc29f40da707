-- How the views of pages and guests follow the lists that they view.
use Rattle.std.proofs.Common.{◌≡◌, ℕ, zero, suc, ◌<◌, List, [], ◌∷◌, length, get_or, set, refl, ap, sym, subst, arith}
use Rattle.std.specs.Prelude.{IsSome, slice_get}
use Rattle.std.specs.Option.{option_map}
use Rattle.std.proofs.lemmas.Bool.{false≢true}
use Rattle.std.proofs.lemmas.List.{map-set}
use Rattle.page_model.specs.Pages.{SlotOf, GuestOf, with_slot, page_at}
use Rattle.merge_core.specs.declared.held.PageEntry.{PageEntry}
use Rattle.merge_core.specs.declared.held.GuestPages.{GuestPages}
use Rattle.merge_core.specs.View.{slot_of, slots_of, guest_of, pmap_in}

-- a write of one page
pub set_guest : {A : Type 0} (gs : List (GuestPages A)) (i ppn : ℕ) (page : PageEntry) (d : GuestPages A) → pmap_in (set gs i (record { salt = (get_or gs i d).salt; pages = set (get_or gs i d).pages ppn page })) ≡ with_slot (pmap_in gs) i ppn (slot_of page)
set_guest [] i ppn page d = refl
set_guest (g ∷ gs) zero ppn page d = ap (λ (slots : List (SlotOf ℕ)). let g' : GuestOf ℕ = record { salt = g.salt; slots = slots } in g' ∷ pmap_in gs) (map-set slot_of g.pages ppn page)
set_guest (g ∷ gs) (suc i) ppn page d = ap (λ rest. guest_of g ∷ rest) (set_guest gs i ppn page d)

-- the same, after the guest was read
pub set_guest_read : {A : Type 0} (gs : List (GuestPages A)) (i ppn : ℕ) (page : PageEntry) (g : GuestPages A) → g ≡ get_or gs i g → pmap_in (set gs i (record { salt = g.salt; pages = set g.pages ppn page })) ≡ with_slot (pmap_in gs) i ppn (slot_of page)
set_guest_read {A} gs i ppn page g e = subst (λ (x : GuestPages A). pmap_in (set gs i (record { salt = x.salt; pages = set x.pages ppn page })) ≡ with_slot (pmap_in gs) i ppn (slot_of page)) (sym e) (set_guest gs i ppn page g)

-- the place of a page that is there
pub guest_within : {A : Type 0} (gs : List (GuestPages A)) (i ppn : ℕ) → IsSome (page_at (pmap_in gs) i ppn) → i < length gs
guest_within [] i ppn h = absurd (false≢true h)
guest_within (g ∷ gs) zero ppn h = omega arith
guest_within (g ∷ gs) (suc i) ppn h = omega (arith, guest_within gs i ppn h)

slot_within : (salt : ℕ) (pages : List PageEntry) (ppn : ℕ) → IsSome (option_map {U = ℕ × SlotOf ℕ} (λ slot. (salt, slot)) (slice_get (slots_of pages) ppn)) → ppn < length pages
slot_within salt [] ppn h = absurd (false≢true h)
slot_within salt (p ∷ pages) zero h = omega arith
slot_within salt (p ∷ pages) (suc ppn) h = omega (arith, slot_within salt pages ppn h)

pub page_within : {A : Type 0} (gs : List (GuestPages A)) (i ppn : ℕ) (d : GuestPages A) → IsSome (page_at (pmap_in gs) i ppn) → ppn < length (get_or gs i d).pages
page_within [] i ppn d h = absurd (false≢true h)
page_within (g ∷ gs) zero ppn d h = slot_within g.salt g.pages ppn h
page_within (g ∷ gs) (suc i) ppn d h = page_within gs i ppn d h

-- the same, after the guest was read
pub page_within_read : {A : Type 0} (gs : List (GuestPages A)) (i ppn : ℕ) (g : GuestPages A) → g ≡ get_or gs i g → IsSome (page_at (pmap_in gs) i ppn) → ppn < length g.pages
page_within_read {A} gs i ppn g e h = subst (λ (x : GuestPages A). ppn < length x.pages) (sym e) (page_within gs i ppn g h)
