-- What the table's entry under a hash says of the shared pages.
use Rattle.std.proofs.Common.{◌≡◌, ℕ, ◌≤◌, Bool, true, false, List, Some, None, refl, ap, sym, ◌∙◌, inl, inr, arith}
use Rattle.std.specs.FinMap as map
use Rattle.std.proofs.lemmas.Bool.{false≢true, eq-eqb, eqb-true}
use Rattle.page_model.specs.Pages.{SlotOf, Slot, Unmapped, Private, Shared, Guest, page_at, is_shared_as, is_shared_under, any_page}
use Rattle.page_model.proofs.Anys.{any_is_count, AnyIsCount, page_passing, none_passes}
use Rattle.page_model.proofs.Used.{pages_counted}
use Rattle.machine_frames.specs.FrameMap.{FrameMap}
use Rattle.share_table.specs.TableMaps.{SharedMap, SharedFrame}
use Rattle.merge_core.specs.Pmap.{Pmap, bytes_in, slot_in, guests_in, Known, known_at}
use Rattle.merge_core.specs.Ties.{SharedWell, Shares, Noted}
use Rattle.merge_core.proofs.Sharing.{content_is, none_frame, same_frame}
use Rattle.merge_core.proofs.Named.{named}

pub some_any : (t : Bool) (n : ℕ) → AnyIsCount t n → 1 ≤ n → t ≡ true
some_any t n (inl h) some = h.0
some_any t n (inr h) some = absurd (no n h.1 some) where
  no : (k : ℕ) → k ≡ 0 → 1 ≤ k → ⊥
  no k e l = omega arith

-- a page that passes is some page
pub any_of : (p : ℕ → Slot → Bool) (gs : List Guest) (a b salt : ℕ) (x : Slot) → p salt Unmapped ≡ false → page_at gs a b ≡ Some (salt, x) → p salt x ≡ true → any_page p gs ≡ true
any_of p gs a b salt x calm at passes =
    let e = rw (calm, passes) at (pages_counted p gs a b salt x Unmapped at) in
    some_any _ _ (any_is_count p gs) (omega (arith, e))

module _ (hash : ℕ → List ℕ → ℕ) (pmap : Pmap) (frames : FrameMap) (notes : List Known) (shared : SharedMap) (code : ℕ) (f : SharedFrame) (shares : Shares hash pmap frames notes shared) (found : map.get shared code ≡ Some f) where
  entry_well : SharedWell hash (guests_in frames pmap) frames notes code f
  entry_well = shares.well code f found

  -- the entry's content is shared
  pub same_any : any_page (is_shared_as (known_at notes f.mpn).salt (bytes_in frames f.mpn)) (guests_in frames pmap) ≡ true
  same_any = some_any _ _ (any_is_count (is_shared_as (known_at notes f.mpn).salt (bytes_in frames f.mpn)) (guests_in frames pmap)) (omega (arith, entry_well.count, entry_well.some))

  under_slot : (salt : ℕ) (x : Slot) → is_shared_as (known_at notes f.mpn).salt (bytes_in frames f.mpn) salt x ≡ true → is_shared_under hash code salt x ≡ true
  under_slot salt Unmapped h = absurd (false≢true h)
  under_slot salt (Private bytes hint) h = absurd (false≢true h)
  under_slot salt (Shared bytes) h =
      let same = content_is (known_at notes f.mpn).salt salt (bytes_in frames f.mpn) bytes h in
      eq-eqb (hash salt bytes) code (ap (λ (s : ℕ). hash s bytes) same.0 ∙ ap (hash (known_at notes f.mpn).salt) same.1 ∙ entry_well.code_is)

  -- a shared page has the hash
  pub under_any : any_page (is_shared_under hash code) (guests_in frames pmap) ≡ true
  under_any =
      let p = page_passing (is_shared_as (known_at notes f.mpn).salt (bytes_in frames f.mpn)) (guests_in frames pmap) same_any in
      any_of (is_shared_under hash code) (guests_in frames pmap) p.guest p.ppn p.salt p.slot refl p.at (under_slot p.salt p.slot p.passes)

-- no shared page has a hash that the table doesn't have
module _ (hash : ℕ → List ℕ → ℕ) (pmap : Pmap) (frames : FrameMap) (notes : List Known) (shared : SharedMap) (code : ℕ) (shares : Shares hash pmap frames notes shared) (absent : map.get shared code ≡ None) where
  under_none : (c d s : ℕ) (slot : SlotOf ℕ) (t : Bool) → page_at pmap c d ≡ Some (s, slot) → is_shared_under hash code s (slot_in frames slot) ≡ t → t ≡ false
  under_none c d s slot false at e = refl
  under_none c d s Unmapped true at e = absurd (false≢true e)
  under_none c d s (Private k h) true at e = absurd (false≢true e)
  under_none c d s (Shared k) true at e =
      let l = shares.listed c d s k at in
      let is : hash s (bytes_in frames k) ≡ code = eqb-true (hash s (bytes_in frames k)) code e in
      absurd (none_frame (sym l.here ∙ ap (map.get shared) is ∙ absent))

  pub no_under : any_page (is_shared_under hash code) (guests_in frames pmap) ≡ false
  no_under = none_passes (is_shared_under hash code) (guests_in frames pmap) (λ c d s x at.
      let n = named pmap frames c d s x at in
      ap (is_shared_under hash code s) (sym n.is) ∙ under_none c d s n.slot (is_shared_under hash code s (slot_in frames n.slot)) n.at refl)

-- no shared page has another content than the frame that the table has under its hash
module _ (hash : ℕ → List ℕ → ℕ) (pmap : Pmap) (frames : FrameMap) (notes : List Known) (shared : SharedMap) (salt code : ℕ)
    (bytes : List ℕ) (f : SharedFrame) (noted : Noted hash pmap frames notes) (shares : Shares hash pmap frames notes shared)
    (found : map.get shared code ≡ Some f) (code_is : hash salt bytes ≡ code)
    (differs : (known_at notes f.mpn).salt ≡ salt → bytes_in frames f.mpn ≡ bytes → ⊥) where
  other_none : (c d s : ℕ) (slot : SlotOf ℕ) (t : Bool) → page_at pmap c d ≡ Some (s, slot) → is_shared_as salt bytes s (slot_in frames slot) ≡ t → t ≡ false
  other_none c d s slot false at e = refl
  other_none c d s Unmapped true at e = absurd (false≢true e)
  other_none c d s (Private k h) true at e = absurd (false≢true e)
  other_none c d s (Shared k) true at e =
      let same = content_is salt s bytes (bytes_in frames k) e in
      let l = shares.listed c d s k at in
      let is : hash s (bytes_in frames k) ≡ code = ap (λ (x : ℕ). hash x (bytes_in frames k)) same.0 ∙ ap (hash salt) same.1 ∙ code_is in
      let frame_is : k ≡ f.mpn = ap (λ (x : SharedFrame). x.mpn) (same_frame (sym (ap (map.get shared) (sym is) ∙ l.here) ∙ found)) in
      let salts : (known_at notes k).salt ≡ s = noted.salts c d s (Shared k) k at refl in
      absurd (differs (ap (λ (x : ℕ). (known_at notes x).salt) (sym frame_is) ∙ salts ∙ same.0) (ap (bytes_in frames) (sym frame_is) ∙ same.1))

  pub not_shared : any_page (is_shared_as salt bytes) (guests_in frames pmap) ≡ false
  not_shared = none_passes (is_shared_as salt bytes) (guests_in frames pmap) (λ c d s x at.
      let n = named pmap frames c d s x at in
      ap (is_shared_as salt bytes s) (sym n.is) ∙ other_none c d s n.slot (is_shared_as salt bytes s (slot_in frames n.slot)) n.at refl)
