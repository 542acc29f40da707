-- What a core's pages read as, and how many there are.
use Rattle.std.proofs.Common.{◌≡◌, ℕ, zero, suc, ◌<◌, false, List, [], ◌∷◌, length, get_or, map, Option, Some, None, IsSome, refl, ap, sym, ◌∙◌, arith}
use Rattle.std.specs.Prelude.{slice_get}
use Rattle.std.specs.Option.{option_map}
use Rattle.std.proofs.lemmas.Bool.{false≢true}
use Rattle.std.proofs.lemmas.List.{get_or-replicate, length-map}
use Rattle.page_model.specs.Pages.{SlotOf, Slot, Unmapped, Private, Shared, Guest, page_at, blank, bytes_of, is_mapped}
use Rattle.page_model.specs.Stored.{text_at, byte_in}
use Rattle.machine_frames.specs.FrameMap.{FrameMap, frame}
use Rattle.merge_core.specs.declared.held.GuestPages.{GuestPages}
use Rattle.merge_core.specs.Pmap.{Pmap, bytes_in, slot_in, guests_in, frame_of}
use Rattle.merge_core.specs.Ties.{Placed}
use Rattle.merge_core.specs.View.{slot_of, pmap_in}
use Rattle.merge_core.proofs.FrameLemmas.{bytes_are}
use Rattle.merge_core.proofs.Views.{page_in_is}

-- a page's frame holds what the page reads as
pub frame_text : (pmap : Pmap) (frames : FrameMap) (a b salt m : ℕ) (slot : SlotOf ℕ) → Placed pmap frames → page_at pmap a b ≡ Some (salt, slot) → frame_of slot ≡ Some m → frame frames m ≡ text_at (guests_in frames pmap) a b
frame_text pmap frames a b salt m Unmapped placed at f = cc
frame_text pmap frames a b salt m (Private k h) placed at f =
    bytes_are frames m (placed.taken a b salt (Private k h) m at f)
    ∙ ap (λ (x : ℕ). Some (bytes_in frames x)) (sym (same f))
    ∙ sym (ap (λ (o : Option (ℕ × Slot)). option_map (λ (x : ℕ × Slot). bytes_of x.1) o) (page_in_is frames pmap a b salt (Private k h) at)) where
      same : Some k ≡ Some m → k ≡ m
      same e = cc
frame_text pmap frames a b salt m (Shared k) placed at f =
    bytes_are frames m (placed.taken a b salt (Shared k) m at f)
    ∙ ap (λ (x : ℕ). Some (bytes_in frames x)) (sym (same f))
    ∙ sym (ap (λ (o : Option (ℕ × Slot)). option_map (λ (x : ℕ × Slot). bytes_of x.1) o) (page_in_is frames pmap a b salt (Shared k) at)) where
      same : Some k ≡ Some m → k ≡ m
      same e = cc

-- an unmapped page reads as zeros
pub unmapped_reads : (o : Option (ℕ × Slot)) (k : ℕ) → k < 4096 → Some false ≡ option_map (λ (x : ℕ × Slot). is_mapped x.1) o → byte_in k (option_map (λ (x : ℕ × Slot). bytes_of x.1) o) ≡ 0
unfolding blank
unmapped_reads None k h e = refl
unmapped_reads (Some (salt, Unmapped)) k h e = get_or-replicate 4096 k 0 0 h
unmapped_reads (Some (salt, Private bytes hint)) k h e = cc
unmapped_reads (Some (salt, Shared bytes)) k h e = cc

pub text_there : (o : Option (ℕ × Slot)) → IsSome o → IsSome (option_map (λ (x : ℕ × Slot). bytes_of x.1) o)
text_there None h = absurd (false≢true h)
text_there (Some x) h = refl

-- how many pages a guest has
pub pages_read : {A : Type 0} (frames : FrameMap) (gs : List (GuestPages A)) (i : ℕ) (d : GuestPages A) → i < length gs → Some (length (get_or gs i d).pages) ≡ option_map (λ (g : Guest). length g.slots) (slice_get (guests_in frames (pmap_in gs)) i)
pages_read frames [] i d h = absurd (omega arith)
pages_read frames (g ∷ gs) zero d h =
    let n : length g.pages ≡ length (map (slot_in frames) (map slot_of g.pages)) = omega (arith, length-map g.pages slot_of, length-map (map slot_of g.pages) (slot_in frames)) in
    ap Some n
pages_read frames (g ∷ gs) (suc i) d h = pages_read frames gs i d (omega arith)

-- a guest's salt
pub salt_read : {A : Type 0} (frames : FrameMap) (gs : List (GuestPages A)) (i : ℕ) (d : GuestPages A) → i < length gs → Some (get_or gs i d).salt ≡ option_map (λ (g : Guest). g.salt) (slice_get (guests_in frames (pmap_in gs)) i)
salt_read frames [] i d h = absurd (omega arith)
salt_read frames (g ∷ gs) zero d h = refl
salt_read frames (g ∷ gs) (suc i) d h = salt_read frames gs i d (omega arith)
