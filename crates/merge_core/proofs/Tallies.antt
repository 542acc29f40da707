-- The numbers of a report, from the counters of the frames and of the table.
use Rattle.std.proofs.Common.{◌≡◌, ℕ, ◌+◌, ◌-◌, cond, List, [], ◌∷◌, refl, arith}
use Rattle.std.specs.Prelude.{count_by}
use Rattle.std.specs.FinMap as maps
use Rattle.std.proofs.lemmas.List.Sums.{sum_by-cons}
use Rattle.page_model.specs.Pages.{Slot, Unmapped, Private, Shared, Guest, is_mapped, is_private, is_shared, is_hinted, count_pages, used, totals}
use Rattle.machine_frames.specs.FrameMap.{FrameMap}
use Rattle.machine_frames.specs.FrameMap as fm
use Rattle.share_table.specs.TableMaps.{TableMaps, references}
use Rattle.merge_core.specs.Ties.{Counted}

slot_parts : (s : Slot) → cond (is_mapped s) 1 0 ≡ cond (is_private s) 1 0 + cond (is_shared s) 1 0
slot_parts Unmapped = refl
slot_parts (Private bytes hint) = refl
slot_parts (Shared bytes) = refl

slots_parts : (slots : List Slot) → count_by is_mapped slots ≡ count_by is_private slots + count_by is_shared slots
slots_parts [] = refl
slots_parts (s ∷ slots) = omega (arith, slots_parts slots, slot_parts s, sum_by-cons (λ (x : Slot). cond (is_mapped x) 1 0) s slots, sum_by-cons (λ (x : Slot). cond (is_private x) 1 0) s slots, sum_by-cons (λ (x : Slot). cond (is_shared x) 1 0) s slots)

-- a mapped page is private or shared
pub mapped_parts : (gs : List Guest) → count_pages (λ _. is_mapped) gs ≡ count_pages (λ _. is_private) gs + count_pages (λ _. is_shared) gs
mapped_parts [] = refl
mapped_parts (g ∷ gs) = omega (arith, mapped_parts gs, slots_parts g.slots, sum_by-cons (λ (x : Guest). count_by is_mapped x.slots) g gs, sum_by-cons (λ (x : Guest). count_by is_private x.slots) g gs, sum_by-cons (λ (x : Guest). count_by is_shared x.slots) g gs)

-- the mapped pages, by the counters
pub mapped_is : (gs : List Guest) (frames : FrameMap) (table : TableMaps) → Counted gs frames table → fm.used frames - maps.len table.shared + references table ≡ count_pages (λ _. is_mapped) gs
mapped_is gs frames table c = omega (arith, c.used, c.shared, c.references, mapped_parts gs)

pub totals_are : (entries m s f h : ℕ) (gs : List Guest) → m ≡ count_pages (λ _. is_mapped) gs → s ≡ count_pages (λ _. is_shared) gs →
    f ≡ used gs → h ≡ count_pages (λ _. is_hinted) gs →
    record { entries = entries; mapped = m; shared = s; frames = f; reclaimed = m - f; hints = h } ≡ totals entries gs
totals_are entries m s f h gs p q r t = rw (p, q, r, t) refl
