-- A private page becomes the first shared page of its content.
use Rattle.std.proofs.Common.{◌≡◌, ◌≢◌, ℕ, Bool, true, false, List, Option, Some, None, refl, ap, sym, ◌∙◌, ◌⊎◌, inl, inr, arith}
use Rattle.std.specs.Prelude.{option_map}
use Rattle.std.specs.FinMap as map
use Rattle.std.proofs.lemmas.Bool.{cases_eq, false≢true}
use Rattle.page_model.specs.Pages.{SlotOf, Slot, Unmapped, Private, Shared, page_at, with_slot, is_shared_as, peers, any_page}
use Rattle.page_model.proofs.Places.{at_changed, here, elsewhere, Changed, same_page}
use Rattle.page_model.proofs.Anys.{any_is_count, AnyIsCount, none_passes}
use Rattle.machine_frames.specs.FrameMap.{FrameMap}
use Rattle.share_table.specs.TableMaps.{SharedMap, SharedFrame}
use Rattle.share_table.proofs.Maps.{got_same, got_other}
use Rattle.merge_core.specs.Pmap.{Pmap, bytes_in, slot_in, guests_in, Known, known_at}
use Rattle.merge_core.specs.Ties.{Placed, Noted, Listed, Shares}
use Rattle.merge_core.proofs.Views.{page_in}
use Rattle.merge_core.proofs.Remaps.{re_peers, re_placed, re_noted}
use Rattle.merge_core.proofs.Sharing.{own_content, content_is, same_frame, none_frame, calm_shared, inserted_well}

-- no shared page has a content whose hash the table doesn't have
module _ (hash : ℕ → List ℕ → ℕ) (pmap : Pmap) (frames : FrameMap) (notes : List Known) (shared : SharedMap) (salt code : ℕ) (bytes : List ℕ) (shares : Shares hash pmap frames notes shared) (absent : map.get shared code ≡ None) (code_is : hash salt bytes ≡ code) where
  none_slot : (c d s : ℕ) (slot : SlotOf ℕ) → page_at pmap c d ≡ Some (s, slot) → (t : Bool) → is_shared_as salt bytes s (slot_in frames slot) ≡ t → t ≡ false
  none_slot c d s slot at false e = refl
  none_slot c d s Unmapped at true e = absurd (false≢true e)
  none_slot c d s (Private m hint) at true e = absurd (false≢true e)
  none_slot c d s (Shared k) at true e =
      let same = content_is salt s bytes (bytes_in frames k) e in
      let l = shares.listed c d s k at in
      let is : hash s (bytes_in frames k) ≡ code = ap (λ (x : ℕ). hash x (bytes_in frames k)) same.0 ∙ ap (hash salt) same.1 ∙ code_is in
      absurd (none_frame (sym l.here ∙ ap (map.get shared) is ∙ absent))

  none_name : (c d s : ℕ) (x : Slot) (o : Option (ℕ × SlotOf ℕ)) → page_at pmap c d ≡ o → option_map (λ (p : ℕ × SlotOf ℕ). let q : ℕ × Slot = (p.0, slot_in frames p.1) in q) o ≡ Some (s, x) → is_shared_as salt bytes s x ≡ false
  none_name c d s x None at e = absurd (no e) where
    no : {p : ℕ × Slot} → None ≡ Some p → ⊥
    no e = cc
  none_name c d s x (Some (t, slot)) at e =
      let o : Option (ℕ × Slot) = Some (t, slot_in frames slot) in
      let same = same_page o t s (slot_in frames slot) x refl e in
      ap (λ (y : Slot). is_shared_as salt bytes s y) (sym same.1) ∙ ap (λ (y : ℕ). is_shared_as salt bytes y (slot_in frames slot)) (sym same.0) ∙ none_slot c d t slot at (is_shared_as salt bytes t (slot_in frames slot)) refl

  pub no_content : any_page (is_shared_as salt bytes) (guests_in frames pmap) ≡ false
  no_content = none_passes (is_shared_as salt bytes) (guests_in frames pmap) (λ c d s x at. none_name c d s x (page_at pmap c d) refl (sym (page_in frames pmap c d) ∙ at))

  none_counted : (t : Bool) (n : ℕ) → AnyIsCount t n → t ≡ false → n ≡ 0
  none_counted t n (inl h) e = absurd (false≢true (sym e ∙ h.0))
  none_counted t n (inr h) e = h.1

  pub no_peers : peers salt bytes (guests_in frames pmap) ≡ 0
  no_peers = none_counted _ _ (any_is_count (is_shared_as salt bytes) (guests_in frames pmap)) no_content

-- the change
module _ (hash : ℕ → List ℕ → ℕ) (pmap : Pmap) (frames : FrameMap) (notes : List Known) (shared : SharedMap) (a b salt m code : ℕ)
    (at : page_at pmap a b ≡ Some (salt, Private m None)) (placed : Placed pmap frames) (noted : Noted hash pmap frames notes)
    (shares : Shares hash pmap frames notes shared) (absent : map.get shared code ≡ None)
    (code_is : hash salt (bytes_in frames m) ≡ code) where
  same_some : (k : ℕ) → Some m ≡ Some k → m ≡ k
  same_some k e = cc

  no_private : (k : ℕ) (h : Option ℕ) → Shared m ≡ Private k h → ⊥
  no_private k h e = cc

  same_shared : (k : ℕ) → Shared k ≡ Shared m → k ≡ m
  same_shared k e = cc

  first_salt : (known_at notes m).salt ≡ salt
  first_salt = noted.salts a b salt (Private m None) m at refl

  alone : (c d s k : ℕ) (h : Option ℕ) → (c ≡ a → d ≡ b → ⊥) → page_at pmap c d ≡ Some (s, Private k h) → m ≡ k → ⊥
  alone c d s k h apart there e = let same = placed.alone a b salt m None c d s (Private k h) at there (ap Some (sym e)) in apart same.0 same.1

  pub first_placed : Placed (with_slot pmap a b (Shared m)) frames
  first_placed = re_placed pmap frames a b salt (Private m None) (Shared m) at
      (λ k f. placed.taken a b salt (Private m None) k at f)
      (λ k h is. absurd (no_private k h is))
      (λ k f c d s h apart there. alone c d s k h apart there (same_some k f))
      placed

  pub first_noted : Noted hash (with_slot pmap a b (Shared m)) frames notes
  first_noted = re_noted pmap frames a b salt (Private m None) (Shared m) at hash notes noted (λ k f. noted.salts a b salt (Private m None) k at f)

  pub first_count : 1 ≡ peers salt (bytes_in frames m) (guests_in frames (with_slot pmap a b (Shared m)))
  first_count =
      let e = rw (own_content salt (bytes_in frames m)) at (re_peers pmap frames a b salt (Private m None) (Shared m) at salt (bytes_in frames m)) in
      omega (arith, e, no_peers hash pmap frames notes shared salt code (bytes_in frames m) shares absent code_is)

  abbrev first : SharedFrame
  first = record { mpn = m; count = 1 }

  first_listed : (c d s k : ℕ) → Changed pmap a b salt (Shared m) c d s (Shared k) → Listed (map.insert shared code first) (hash s (bytes_in frames k)) k
  first_listed c d s k (here ca db ss is) =
      let e : k ≡ m = same_shared k is in
      record { count = 1; here = rw (e, ss, code_is) (got_same shared code first) }
  first_listed c d s k (elsewhere apart there) =
      let l = shares.listed c d s k there in
      let n : hash s (bytes_in frames k) ≢ code = λ e. none_frame (sym l.here ∙ ap (map.get shared) e ∙ absent) in
      record { count = l.count; here = got_other shared code first (hash s (bytes_in frames k)) n ∙ l.here }

  first_own : (c d s k o : ℕ) (h : Option ℕ) (f : SharedFrame) → (c ≡ a → d ≡ b → ⊥) → page_at pmap c d ≡ Some (s, Private k h) → ((o ≡ code) ⊎ (o ≡ code → ⊥)) → map.get (map.insert shared code first) o ≡ Some f → f.mpn ≡ k → ⊥
  first_own c d s k o h f apart there (inl e) got is =
      let same : first ≡ f = same_frame (sym (ap (map.get (map.insert shared code first)) e ∙ got_same shared code first) ∙ got) in
      alone c d s k h apart there (ap (λ (x : SharedFrame). x.mpn) same ∙ is)
  first_own c d s k o h f apart there (inr n) got is = shares.apart c d s k h o f there (sym (got_other shared code first o n) ∙ got) is

  first_apart : (c d s k : ℕ) (h : Option ℕ) (o : ℕ) (f : SharedFrame) → Changed pmap a b salt (Shared m) c d s (Private k h) → map.get (map.insert shared code first) o ≡ Some f → f.mpn ≡ k → ⊥
  first_apart c d s k h o f (here ca db ss is) got e = no_private k h (sym is)
  first_apart c d s k h o f (elsewhere apart there) got e = first_own c d s k o h f apart there (cases_eq o code) got e

  pub first_shares : Shares hash (with_slot pmap a b (Shared m)) frames notes (map.insert shared code first)
  first_shares = record {
    listed = λ c d s k there. first_listed c d s k (at_changed pmap a b salt (Private m None) (Shared m) at c d s (Shared k) there);
    well = inserted_well hash pmap frames notes shared a b salt m code (Private m None) (Shared m) at code_is first_salt (λ s bs n. refl) (calm_shared hash frames salt m code code_is) shares.well 1 (placed.taken a b salt (Private m None) m at refl) first_count (omega arith);
    apart = λ c d s k h o f there got e. first_apart c d s k h o f (at_changed pmap a b salt (Private m None) (Shared m) at c d s (Private k h) there) got e;
  }
