-- The page that the table names under a key is the first page with that hint.
use Rattle.std.proofs.Common.{◌≡◌, ℕ, ◌<◌, true, List, Option, Some, None, is_some, refl, ap, sym, ◌∙◌, arith, ◌⊎◌, inl, inr}
use Rattle.std.specs.Prelude.{option_map}
use Rattle.std.specs.FinMap as map
use Rattle.std.proofs.lemmas.Bool.{false≢true, eqb-true, eq-eqb, cases_eq, ne_eqb}
use Rattle.std.proofs.lemmas.List.Sums.{count_by-le-length}
use Rattle.page_model.specs.Pages.{SlotOf, Slot, Unmapped, Private, Shared, Guest, page_at, with_slot, has_hint, find_page, is_private, is_hinted}
use Rattle.page_model.specs.Steps.{kept_hint}
use Rattle.page_model.proofs.Places.{same_page}
use Rattle.page_model.proofs.Finds.{find_page_passes, find_page_none}
use Rattle.page_model.proofs.Used.{pages_counted}
use Rattle.page_model.proofs.Counts.{hinted-le-private}
use Rattle.machine_frames.specs.FrameMap.{FrameMap}
use Rattle.share_table.specs.TableMaps.{TableMaps, HintMap, entry_count}
use Rattle.share_table.specs.declared.entries.HintFrame.{HintFrame}
use Rattle.merge_core.specs.Pmap.{Pmap, bytes_in, slot_in, guests_in, Known}
use Rattle.merge_core.specs.Ties.{Hinted, Ties}
use Rattle.merge_core.proofs.Views.{page_in, page_in_is}

abbrev place_of : HintFrame → ℕ × ℕ
place_of h = (h.guest, h.ppn)

module _ (pmap : Pmap) (frames : FrameMap) (hints : HintMap) (key : ℕ) (hinted : Hinted pmap hints) where
  abbrev gs : List Guest
  gs = guests_in frames pmap

  by_slot : (x y s : ℕ) (slot : SlotOf ℕ) → page_at pmap x y ≡ Some (s, slot) → has_hint key (slot_in frames slot) ≡ true → option_map place_of (map.get hints key) ≡ Some (x, y)
  by_slot x y s Unmapped at h = absurd (false≢true h)
  by_slot x y s (Private m None) at h = absurd (false≢true h)
  by_slot x y s (Private m (Some own)) at h =
      let e : own ≡ key = eqb-true own key h in
      ap (λ (o : Option HintFrame). option_map place_of o) (ap (map.get hints) (sym e) ∙ hinted.there x y s m own at)
  by_slot x y s (Shared m) at h = absurd (false≢true h)

  by_name : (x y salt : ℕ) (slot : Slot) (o : Option (ℕ × SlotOf ℕ)) → page_at pmap x y ≡ o → option_map (λ (p : ℕ × SlotOf ℕ). let q : ℕ × Slot = (p.0, slot_in frames p.1) in q) o ≡ Some (salt, slot) → has_hint key slot ≡ true → option_map place_of (map.get hints key) ≡ Some (x, y)
  by_name x y salt slot None at e h = absurd (no e) where
    no : {p : ℕ × Slot} → None ≡ Some p → ⊥
    no e = cc
  by_name x y salt slot (Some (s, own)) at e h = let o : Option (ℕ × Slot) = Some (s, slot_in frames own) in by_slot x y s own at (ap (has_hint key) (same_page o s salt (slot_in frames own) slot refl e).1 ∙ h)

  by_find : (o : Option HintFrame) (r : Option (ℕ × ℕ)) → map.get hints key ≡ o → find_page (has_hint key) gs ≡ r → option_map place_of (map.get hints key) ≡ r
  by_find None None e f = ap (λ (o : Option HintFrame). option_map place_of o) e
  by_find (Some h) None e f =
      let w = hinted.well key h e in
      let n = find_page_none (has_hint key) gs h.guest h.ppn w.salt (Private (bytes_in frames h.mpn) (Some key)) f (page_in_is frames pmap h.guest h.ppn w.salt (Private h.mpn (Some key)) w.here) in
      absurd (false≢true (sym n ∙ eq-eqb key key refl))
  by_find o (Some (x, y)) e f =
      let p = find_page_passes (has_hint key) gs x y f in
      by_name x y p.0 p.1 (page_at pmap x y) refl (sym (page_in frames pmap x y) ∙ p.2) p.3

  pub holder_is : option_map place_of (map.get hints key) ≡ find_page (has_hint key) gs
  holder_is = by_find (map.get hints key) (find_page (has_hint key) gs) refl refl

  pub found_is : (h : HintFrame) → map.get hints key ≡ Some h → find_page (has_hint key) gs ≡ Some (h.guest, h.ppn)
  found_is h e = sym holder_is ∙ ap (λ (o : Option HintFrame). option_map place_of o) e

  pub found_none : map.get hints key ≡ None → find_page (has_hint key) gs ≡ None
  found_none e = sym holder_is ∙ ap (λ (o : Option HintFrame). option_map place_of o) e

-- a hint that stays is the one under the key
pub kept_own : (key own : ℕ) → kept_hint key (Some own) ≡ Some own → own ≡ key
kept_own key own h = pick (cases_eq own key) where
  pick : ((own ≡ key) ⊎ (own ≡ key → ⊥)) → own ≡ key
  pick (inl e) = e
  pick (inr n) = absurd (no (sym (rw (ne_eqb own key n) at h))) where
    no : Some own ≡ None → ⊥
    no e = cc

-- there is room for the hint of a page that has none
pub room_for : (hash : ℕ → List ℕ → ℕ) (pmap : Pmap) (frames : FrameMap) (table : TableMaps) (notes : List Known) (a b salt m : ℕ) → Ties hash pmap frames table notes → page_at pmap a b ≡ Some (salt, Private m None) → entry_count table < table.capacity
room_for hash pmap frames table notes a b salt m t at =
    let gs : List Guest = guests_in frames pmap in
    let page = page_in_is frames pmap a b salt (Private m None) at in
    let h = pages_counted (λ _. is_hinted) gs a b salt (Private (bytes_in frames m) None) Unmapped page in
    let p = pages_counted (λ _. is_private) gs a b salt (Private (bytes_in frames m) None) Unmapped page in
    let l = hinted-le-private (with_slot gs a b Unmapped) in
    let n = count_by-le-length is_some frames in
    omega (arith, h, p, l, n, t.counted.capacity, t.counted.used, t.counted.shared, t.counted.hints)
