-- The numbers of guests and pages stay, and what they leave room for.
use Rattle.std.proofs.Common.{◌≡◌, ℕ, zero, suc, ◌+◌, ◌<◌, ◌≤◌, Bool, false, List, [], ◌∷◌, length, Some, None, refl, ap, sym, ◌∙◌, arith}
use Rattle.std.specs.Prelude.{slice_get, slice_set, map, count_by}
use Rattle.std.specs.Option.{option_map}
use Rattle.std.proofs.lemmas.List.{length-set, length-map}
use Rattle.std.proofs.lemmas.List.Sums.{sum_by-cons, sum_by-le-sum_by, count_by-le-length}
use Rattle.page_model.specs.Pages.{SlotOf, Slot, Unmapped, Private, Shared, GuestOf, Guest, page_at, with_slot, count_pages, is_shared, is_hinted}
use Rattle.std.specs.FinMap as maps
use Rattle.page_model.proofs.Used.{pages_counted}
use Rattle.page_model.proofs.Places.{at_other, same_page}
use Rattle.share_table.specs.TableMaps.{TableMaps, references}
use Rattle.merge_core.proofs.Views.{page_in_is}
use Rattle.machine_frames.specs.FrameMap.{FrameMap}
use Rattle.merge_core.specs.Pmap.{Pmap, bytes_in, slot_in, guests_in, Known}
use Rattle.merge_core.specs.Ties.{page_total, Few, Ties}

pub length_after : {X : Type 0} (gs : List (GuestOf X)) (a b : ℕ) (x : SlotOf X) → length (with_slot gs a b x) ≡ length gs
length_after [] a b x = refl
length_after (g ∷ gs) zero b x = refl
length_after (g ∷ gs) (suc a) b x = ap suc (length_after gs a b x)

pub pages_after : {X : Type 0} (gs : List (GuestOf X)) (a b : ℕ) (x : SlotOf X) → page_total (with_slot gs a b x) ≡ page_total gs
pages_after [] a b x = refl
pages_after {X} (g ∷ gs) zero b x =
    let g' : GuestOf X = record { salt = g.salt; slots = slice_set g.slots b x } in
    omega (arith, sum_by-cons (λ (y : GuestOf X). length y.slots) g gs, sum_by-cons (λ (y : GuestOf X). length y.slots) g' gs, length-set g.slots b x)
pages_after {X} (g ∷ gs) (suc a) b x =
    omega (arith, sum_by-cons (λ (y : GuestOf X). length y.slots) g gs, sum_by-cons (λ (y : GuestOf X). length y.slots) g (with_slot gs a b x), pages_after gs a b x)

-- a change of one page keeps within the limits
pub few_after : (pmap : Pmap) (a b : ℕ) (x : SlotOf ℕ) → Few pmap → Few (with_slot pmap a b x)
few_after pmap a b x f = record {
  guests = omega (arith, f.guests, length_after pmap a b x);
  pages = omega (arith, f.pages, pages_after pmap a b x);
}

pub pages_in_frames : (frames : FrameMap) (pmap : Pmap) → page_total (guests_in frames pmap) ≡ page_total pmap
pages_in_frames frames [] = refl
pages_in_frames frames (g ∷ gs) =
    let h : Guest = record { salt = g.salt; slots = map (slot_in frames) g.slots } in
    omega (arith, sum_by-cons (λ (y : GuestOf ℕ). length y.slots) g gs, sum_by-cons (λ (y : Guest). length y.slots) h (guests_in frames gs), pages_in_frames frames gs, length-map g.slots (slot_in frames))

-- no more pages pass than there are
pub count_most : (p : ℕ → Slot → Bool) (gs : List Guest) → count_pages p gs ≤ page_total gs
count_most p gs = sum_by-le-sum_by (λ (g : Guest). count_by (p g.salt) g.slots) (λ (g : Guest). length g.slots) gs (λ g. count_by-le-length (p g.salt) g.slots)

-- a page that isn't shared leaves room for one reference
pub room_for_one : (gs : List Guest) (a b salt : ℕ) (x : Slot) → page_at gs a b ≡ Some (salt, x) → is_shared x ≡ false → count_pages (λ _. is_shared) gs + 1 ≤ page_total gs
room_for_one gs a b salt x at calm =
    let e = rw calm at (pages_counted (λ _. is_shared) gs a b salt x (Shared []) at) in
    omega (arith, e, count_most (λ _. is_shared) (with_slot gs a b (Shared [])), pages_after gs a b (Shared []))

-- the number of a guest and of a page
pub place_few : {X : Type 0} (gs : List (GuestOf X)) (a b salt : ℕ) (x : SlotOf X) → page_at gs a b ≡ Some (salt, x) → (a < length gs) × (b < page_total gs)
place_few [] a b salt x at = absurd (cc)
place_few {X} (g ∷ gs) zero b salt x at = (omega arith, omega (arith, sum_by-cons (λ (y : GuestOf X). length y.slots) g gs, below g.slots b at)) where
  below : (slots : List (SlotOf X)) (i : ℕ) → option_map {U = ℕ × SlotOf X} (λ slot. (g.salt, slot)) (slice_get slots i) ≡ Some (salt, x) → i < length slots
  below [] i e = absurd (cc)
  below (s ∷ slots) zero e = omega arith
  below (s ∷ slots) (suc i) e = omega (arith, below slots i e)
place_few {X} (g ∷ gs) (suc a) b salt x at =
    let rest = place_few gs a b salt x at in
    (omega (arith, rest.0), omega (arith, sum_by-cons (λ (y : GuestOf X). length y.slots) g gs, rest.1))

module _ (hash : ℕ → List ℕ → ℕ) (pmap : Pmap) (frames : FrameMap) (table : TableMaps) (notes : List Known) (t : Ties hash pmap frames table notes) (few : Few pmap) where
  -- there are no more hints than pages
  pub hints_few : maps.len table.hints ≤ 1048576
  hints_few = omega (arith, t.counted.hints, count_most (λ _. is_hinted) (guests_in frames pmap), pages_in_frames frames pmap, few.pages)

  -- a page without a frame leaves room for its reference
  pub references_few : (a b salt : ℕ) → page_at pmap a b ≡ Some (salt, Unmapped) → references table < 1048576
  references_few a b salt at =
      let one = room_for_one (guests_in frames pmap) a b salt Unmapped (page_in_is frames pmap a b salt Unmapped at) refl in
      omega (arith, one, t.counted.references, pages_in_frames frames pmap, few.pages)

  -- two pages that aren't shared leave room for two references
  pub references_two : (a b c d salt other m : ℕ) → page_at pmap a b ≡ Some (salt, Private m None) → page_at pmap c d ≡ Some (other, Unmapped) → references table + 2 ≤ 1048576
  references_two a b c d salt other m at there =
      let gs : List Guest = guests_in frames pmap in
      let apart : c ≡ a → d ≡ b → ⊥ = λ e f.
      let moved : page_at pmap a b ≡ Some (other, Unmapped) = ap (λ (i : ℕ). page_at pmap i b) (sym e) ∙ ap (λ (i : ℕ). page_at pmap c i) (sym f) ∙ there in
      no ((same_page (page_at pmap a b) salt other (Private m None) Unmapped at moved).1) in
      let one = pages_counted (λ _. is_shared) gs a b salt (Private (bytes_in frames m) None) (Shared []) (page_in_is frames pmap a b salt (Private m None) at) in
      let still = at_other gs a b (Shared []) c d apart ∙ page_in_is frames pmap c d other Unmapped there in
      let two = room_for_one (with_slot gs a b (Shared [])) c d other Unmapped still refl in
      omega (arith, one, two, t.counted.references, pages_after gs a b (Shared []), pages_in_frames frames pmap, few.pages) where
        no : Private m None ≡ Unmapped → ⊥
        no e = cc
