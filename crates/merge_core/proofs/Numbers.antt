-- The numbers of frames, shared frames, references and hints at a change of one page, and the hints
-- where it has none.
use Rattle.std.proofs.Common.{◌≡◌, ℕ, ◌+◌, List, Option, Some, None, ap, sym, ◌∙◌, arith}
use Rattle.std.specs.FinMap as map
use Rattle.page_model.specs.Pages.{SlotOf, Slot, Unmapped, Private, Shared, Guest, page_at, with_slot, is_private, is_shared, is_hinted, used, distinct, count_pages}
use Rattle.page_model.proofs.Places.{at_changed, here, elsewhere, Changed, at_other, same_page}
use Rattle.page_model.proofs.Used.{used_before, used_after, pages_counted, frames_for, cleared, one}
use Rattle.share_table.specs.TableMaps.{HintMap}
use Rattle.share_table.specs.declared.entries.HintFrame.{HintFrame}
use Rattle.merge_core.specs.Pmap.{Pmap}
use Rattle.merge_core.specs.Ties.{HintWell, Hinted}

-- how each number changes with one page
pub record Shift (gs gs' : List Guest) (own : ℕ) (old new : Slot) (rest : ℕ) (rest' : ℕ) : Type 0 where
  pub used : used gs' + rest ≡ used gs + rest'
  pub distinct : distinct gs' + rest + one (is_private new) ≡ distinct gs + rest' + one (is_private old)
  pub shared : count_pages (λ _. is_shared) gs' + one (is_shared old) ≡ count_pages (λ _. is_shared) gs + one (is_shared new)
  pub hints : count_pages (λ _. is_hinted) gs' + one (is_hinted old) ≡ count_pages (λ _. is_hinted) gs + one (is_hinted new)

pub shift : (gs : List Guest) (a b salt : ℕ) (old new : Slot) → page_at gs a b ≡ Some (salt, old) → Shift gs (with_slot gs a b new) salt old new (frames_for salt old (cleared gs a b)) (frames_for salt new (cleared gs a b))
shift gs a b salt old new at =
    let before = used_before gs a b salt old at in
    let after = used_after gs a b salt old new at in
    let p = pages_counted (λ _. is_private) gs a b salt old new at in
    let s = pages_counted (λ _. is_shared) gs a b salt old new at in
    let h = pages_counted (λ _. is_hinted) gs a b salt old new at in
    record {
      used = omega (arith, before, after);
      distinct = omega (arith, before, after, p);
      shared = s;
      hints = h;
    }

-- the hint of a page
abbrev pub hint_on : SlotOf ℕ → Option ℕ
hint_on Unmapped = None
hint_on (Private m hint) = hint
hint_on (Shared m) = None

-- a change of a page without a hint to one without
module _ (pmap : Pmap) (hints : HintMap) (a b salt : ℕ) (old new : SlotOf ℕ) (at : page_at pmap a b ≡ Some (salt, old)) (none_before : hint_on old ≡ None) (none_after : hint_on new ≡ None) (hinted : Hinted pmap hints) where
  some_none : (x : ℕ) → Some x ≡ None → ⊥
  some_none x e = cc

  calm_there : (c d s m key : ℕ) → Changed pmap a b salt new c d s (Private m (Some key)) → map.get hints key ≡ Some (record { guest = c; ppn = d; mpn = m })
  calm_there c d s m key (here ca db ss is) = absurd (some_none key (ap hint_on is ∙ none_after))
  calm_there c d s m key (elsewhere apart there) = hinted.there c d s m key there

  calm_well : (key : ℕ) (h : HintFrame) → HintWell pmap key h → HintWell (with_slot pmap a b new) key h
  calm_well key h w =
      let apart : h.guest ≡ a → h.ppn ≡ b → ⊥ = λ e f.
      let moved : page_at pmap a b ≡ Some (w.salt, Private h.mpn (Some key)) = ap (λ (i : ℕ). page_at pmap i b) (sym e) ∙ ap (λ (i : ℕ). page_at pmap h.guest i) (sym f) ∙ w.here in
      let same = same_page (page_at pmap a b) w.salt salt (Private h.mpn (Some key)) old moved at in
      some_none key (ap hint_on same.1 ∙ none_before) in
      record { salt = w.salt; here = at_other pmap a b new h.guest h.ppn apart ∙ w.here }

  pub hinted_calm : Hinted (with_slot pmap a b new) hints
  hinted_calm = record {
    there = λ c d s m key there. calm_there c d s m key (at_changed pmap a b salt old new at c d s (Private m (Some key)) there);
    well = λ key h there. calm_well key h (hinted.well key h there);
  }
