-- Each taken frame is some page's, after each change of one page.
use Rattle.std.proofs.Common.{◌≡◌, ℕ, ◌<◌, ◌≤◌, Bool, true, List, length, Option, Some, None, IsSome, refl, ap, sym, ◌∙◌, subst, ◌⊎◌, inl, inr}
use Rattle.std.specs.Prelude.{slice_set}
use Rattle.std.specs.FinMap as map
use Rattle.std.proofs.lemmas.Bool.{cases_eq, false≢true}
use Rattle.page_model.specs.Pages.{SlotOf, Unmapped, Private, Shared, page_at, with_slot, is_shared_as, peers}
use Rattle.page_model.proofs.Places.{at_same, at_other, same_page}
use Rattle.page_model.proofs.Anys.{any_is_count, page_passing}
use Rattle.machine_frames.specs.FrameMap.{FrameMap, frame, IsTaken}
use Rattle.share_table.specs.TableMaps.{SharedMap, SharedFrame}
use Rattle.merge_core.specs.Pmap.{Pmap, bytes_in, slot_in, guests_in, frame_of, Known}
use Rattle.merge_core.specs.Ties.{Shares, Owner, Owned}
use Rattle.merge_core.proofs.Named.{named}
use Rattle.merge_core.proofs.FrameLemmas.{frame_same, frame_other}
use Rattle.merge_core.proofs.Sharing.{content_is}
use Rattle.merge_core.proofs.Matches.{some_any}

-- a change of one page under frames that stay
module _ (pmap : Pmap) (frames : FrameMap) (a b salt : ℕ) (old new : SlotOf ℕ) (at : page_at pmap a b ≡ Some (salt, old)) where
  pub own : (m : ℕ) → frame_of new ≡ Some m → Owner (with_slot pmap a b new) m
  own m f = record { guest = a; ppn = b; salt = salt; slot = new; at = at_same pmap a b salt old new at; frame = f }

  pub move : (m : ℕ) → Owner pmap m → (frame_of old ≡ Some m → Owner (with_slot pmap a b new) m) → Owner (with_slot pmap a b new) m
  move m o h = pick (cases_eq o.guest a) (cases_eq o.ppn b) where
    stays : (o.guest ≡ a → o.ppn ≡ b → ⊥) → Owner (with_slot pmap a b new) m
    stays apart = record { guest = o.guest; ppn = o.ppn; salt = o.salt; slot = o.slot; at = at_other pmap a b new o.guest o.ppn apart ∙ o.at; frame = o.frame }

    pick : ((o.guest ≡ a) ⊎ (o.guest ≡ a → ⊥)) → ((o.ppn ≡ b) ⊎ (o.ppn ≡ b → ⊥)) → Owner (with_slot pmap a b new) m
    pick (inl e) (inl f) =
        let moved : page_at pmap a b ≡ Some (o.salt, o.slot) = ap (λ (i : ℕ). page_at pmap i b) (sym e) ∙ ap (λ (i : ℕ). page_at pmap o.guest i) (sym f) ∙ o.at in
        let same = same_page (page_at pmap a b) o.salt salt o.slot old moved at in
        h (ap frame_of (sym same.1) ∙ o.frame)
    pick (inl e) (inr n) = stays (λ _ q. n q)
    pick (inr n) y = stays (λ q _. n q)

  pub re_owned : ((m : ℕ) → frame_of old ≡ Some m → Owner (with_slot pmap a b new) m) → Owned pmap frames → Owned (with_slot pmap a b new) frames
  re_owned h owned m taken = move m (owned m taken) (h m)

  -- the page keeps its frame
  pub same_owned : frame_of new ≡ frame_of old → Owned pmap frames → Owned (with_slot pmap a b new) frames
  same_owned e owned = re_owned (λ m f. own m (e ∙ f)) owned

  -- the page had no frame
  pub more_owned : frame_of old ≡ None → Owned pmap frames → Owned (with_slot pmap a b new) frames
  more_owned e owned = re_owned (λ m f. absurd (none_some m (sym e ∙ f))) owned where
    none_some : (k : ℕ) → None ≡ Some k → ⊥
    none_some k e = cc

-- a free frame is taken for an unmapped page
pub fill_owned : (pmap : Pmap) (frames : FrameMap) (a b salt m : ℕ) (bytes : List ℕ) → page_at pmap a b ≡ Some (salt, Unmapped) → Owned pmap frames → Owned (with_slot pmap a b (Private m None)) (slice_set frames m (Some bytes))
fill_owned pmap frames a b salt m bytes at owned k taken = pick (cases_eq k m) where
  none_some : None ≡ Some k → ⊥
  none_some e = cc

  pick : ((k ≡ m) ⊎ (k ≡ m → ⊥)) → Owner (with_slot pmap a b (Private m None)) k
  pick (inl e) = own pmap frames a b salt Unmapped (Private m None) at k (ap Some (sym e))
  pick (inr n) =
      let still : IsTaken frames k = let P : Option (List ℕ) → Type 0 = λ o. IsSome o in subst P (frame_other frames m k (Some bytes) n) taken in
      move pmap frames a b salt Unmapped (Private m None) at k (owned k still) (λ f. absurd (none_some f))

-- a frame gets other bytes
pub write_owned : (pmap : Pmap) (frames : FrameMap) (a b salt m : ℕ) (hint : Option ℕ) (bytes : List ℕ) → page_at pmap a b ≡ Some (salt, Private m hint) → Owned pmap frames → Owned pmap (slice_set frames m (Some bytes))
write_owned pmap frames a b salt m hint bytes at owned k taken = pick (cases_eq k m) where
  pick : ((k ≡ m) ⊎ (k ≡ m → ⊥)) → Owner pmap k
  pick (inl e) = record { guest = a; ppn = b; salt = salt; slot = Private m hint; at = at; frame = ap Some (sym e) }
  pick (inr n) = owned k (let P : Option (List ℕ) → Type 0 = λ o. IsSome o in subst P (frame_other frames m k (Some bytes) n) taken)

-- a private page's frame is given back
pub less_owned : (pmap : Pmap) (frames : FrameMap) (a b salt m : ℕ) → page_at pmap a b ≡ Some (salt, Private m None) → m < length frames → Owned pmap frames → Owned (with_slot pmap a b Unmapped) (slice_set frames m None)
less_owned pmap frames a b salt m at within owned k taken = pick (cases_eq k m) where
  some_same : Some m ≡ Some k → k ≡ m
  some_same e = cc

  pick : ((k ≡ m) ⊎ (k ≡ m → ⊥)) → Owner (with_slot pmap a b Unmapped) k
  pick (inl e) =
      let none : frame (slice_set frames m None) k ≡ None = ap (frame (slice_set frames m None)) e ∙ frame_same frames m None within in
      absurd (false≢true (let P : Option (List ℕ) → Type 0 = λ o. IsSome o in subst P none taken))
  pick (inr n) =
      let still : IsTaken frames k = let P : Option (List ℕ) → Type 0 = λ o. IsSome o in subst P (frame_other frames m k None n) taken in
      move pmap frames a b salt (Private m None) Unmapped at k (owned k still) (λ f. absurd (n (some_same f)))

-- a shared page of the content that is listed under a hash has the listed frame
module _ (hash : ℕ → List ℕ → ℕ) (pmap : Pmap) (frames : FrameMap) (notes : List Known) (shared : SharedMap) (salt m code n : ℕ)
    (bytes : List ℕ) (shares : Shares hash pmap frames notes shared) (found : map.get shared code ≡ Some (record { mpn = m; count = n }))
    (code_is : hash salt bytes ≡ code) where
  same_entry : (x y : SharedFrame) → Some x ≡ Some y → x ≡ y
  same_entry x y e = cc

  pub listed_frame : (c d s k : ℕ) → page_at pmap c d ≡ Some (s, Shared k) → s ≡ salt → bytes_in frames k ≡ bytes → k ≡ m
  listed_frame c d s k at e f =
      let l = shares.listed c d s k at in
      let is : hash s (bytes_in frames k) ≡ code = ap (λ (x : ℕ). hash x (bytes_in frames k)) e ∙ ap (hash salt) f ∙ code_is in
      ap (λ (x : SharedFrame). x.mpn) (same_entry _ _ (sym (ap (map.get shared) (sym is) ∙ l.here) ∙ found))

  sharer_by : (c d s : ℕ) (slot : SlotOf ℕ) (t : Bool) → page_at pmap c d ≡ Some (s, slot) → is_shared_as salt bytes s (slot_in frames slot) ≡ t → t ≡ true → Owner pmap m
  sharer_by c d s Unmapped t at e f = absurd (false≢true (e ∙ f))
  sharer_by c d s (Private k h) t at e f = absurd (false≢true (e ∙ f))
  sharer_by c d s (Shared k) t at e f =
      let same = content_is salt s bytes (bytes_in frames k) (e ∙ f) in
      record { guest = c; ppn = d; salt = s; slot = Shared k; at = at; frame = ap Some (listed_frame c d s k at same.0 same.1) }

  -- the frame of a content with peers is some page's
  pub sharer : 1 ≤ peers salt bytes (guests_in frames pmap) → Owner pmap m
  sharer some =
      let p = page_passing (is_shared_as salt bytes) (guests_in frames pmap) (some_any _ _ (any_is_count (is_shared_as salt bytes) (guests_in frames pmap)) some) in
      let x = named pmap frames p.guest p.ppn p.salt p.slot p.at in
      sharer_by p.guest p.ppn p.salt x.slot true x.at (ap (is_shared_as salt bytes p.salt) x.is ∙ p.passes) refl
