-- A page becomes shared, or stops to be.
use Rattle.std.proofs.Common.{◌≡◌, ◌≢◌, ℕ, ◌+◌, ◌≤◌, true, false, List, Option, Some, None, refl, ap, sym, ◌∙◌, subst, ◌⊎◌, inl, inr, arith}
use Rattle.std.specs.Prelude.{nat_eq}
use Rattle.std.specs.Str.{bytes_eq}
use Rattle.std.specs.FinMap as map
use Rattle.std.proofs.lemmas.Bool.{cases_eq, cases_Bool, eqb-true, and_parts, and_from, eq-eqb}
use Rattle.std.proofs.lemmas.Slice.Eq.{bytes_eq-Decides}
use Rattle.page_model.specs.Pages.{SlotOf, Slot, Unmapped, Private, Shared, Guest, page_at, with_slot, is_shared_as, peers}
use Rattle.page_model.proofs.Places.{at_changed, here, elsewhere, Changed, at_other}
use Rattle.page_model.proofs.Used.{pages_counted}
use Rattle.machine_frames.specs.FrameMap.{FrameMap, IsTaken}
use Rattle.share_table.specs.TableMaps.{SharedMap, SharedFrame}
use Rattle.share_table.proofs.Maps.{got_same, got_other, gone_same, gone_other}
use Rattle.merge_core.specs.Pmap.{Pmap, bytes_in, slot_in, guests_in, frame_of, Known, known_at}
use Rattle.merge_core.specs.Ties.{Placed, Noted, SharedWell, Listed, Shares}
use Rattle.merge_core.proofs.Views.{page_in_is}
use Rattle.merge_core.proofs.Remaps.{re_peers, re_placed, re_noted}

pub same_frame : {x y : SharedFrame} → Some x ≡ Some y → x ≡ y
same_frame e = cc

pub none_frame : {x : SharedFrame} → Some x ≡ None → ⊥
none_frame e = cc

pub own_content : (salt : ℕ) (bytes : List ℕ) → is_shared_as salt bytes salt (Shared bytes) ≡ true
own_content salt bytes = and_from (nat_eq salt salt) (bytes_eq bytes bytes) (eq-eqb salt salt refl) ((bytes_eq-Decides bytes bytes).1 refl)

pub content_is : (s salt : ℕ) (bs bytes : List ℕ) → is_shared_as s bs salt (Shared bytes) ≡ true → (salt ≡ s) × (bytes ≡ bs)
content_is s salt bs bytes h =
    let parts = and_parts (nat_eq salt s) (bytes_eq bytes bs) h in
    (eqb-true salt s parts.0, (bytes_eq-Decides bytes bs).0 parts.1)

-- another hash, another content
other_content : (hash : ℕ → List ℕ → ℕ) (s salt : ℕ) (bs bytes : List ℕ) → (hash s bs ≡ hash salt bytes → ⊥) → is_shared_as s bs salt (Shared bytes) ≡ false
other_content hash s salt bs bytes n = pick (cases_Bool (is_shared_as s bs salt (Shared bytes))) where
  pick : ((is_shared_as s bs salt (Shared bytes) ≡ true) ⊎ (is_shared_as s bs salt (Shared bytes) ≡ false)) → is_shared_as s bs salt (Shared bytes) ≡ false
  pick (inl t) = let same = content_is s salt bs bytes t in absurd (n (ap (λ (x : ℕ). hash x bs) (sym same.0) ∙ ap (hash salt) (sym same.1)))
  pick (inr f) = f

-- the entries of the table at a change of one page that has, or had, the frame m
module _ (hash : ℕ → List ℕ → ℕ) (pmap : Pmap) (frames : FrameMap) (notes : List Known) (shared : SharedMap) (a b salt m code : ℕ)
    (old new : SlotOf ℕ) (at : page_at pmap a b ≡ Some (salt, old)) (code_is : hash salt (bytes_in frames m) ≡ code)
    (salt_is : (known_at notes m).salt ≡ salt)
    (calm_old : (s : ℕ) (bs : List ℕ) → (hash s bs ≡ code → ⊥) → is_shared_as s bs salt (slot_in frames old) ≡ false)
    (calm_new : (s : ℕ) (bs : List ℕ) → (hash s bs ≡ code → ⊥) → is_shared_as s bs salt (slot_in frames new) ≡ false)
    (well : (c : ℕ) (f : SharedFrame) → map.get shared c ≡ Some f → SharedWell hash (guests_in frames pmap) frames notes c f) where
  abbrev gs' : List Guest
  gs' = guests_in frames (with_slot pmap a b new)

  others_stay : (s : ℕ) (bs : List ℕ) → (hash s bs ≡ code → ⊥) → peers s bs gs' ≡ peers s bs (guests_in frames pmap)
  others_stay s bs n =
      let e = rw (calm_old s bs n, calm_new s bs n) at (re_peers pmap frames a b salt old new at s bs) in
      omega (arith, e)

  pub other_well : (c : ℕ) (f : SharedFrame) → (c ≡ code → ⊥) → map.get shared c ≡ Some f → SharedWell hash gs' frames notes c f
  other_well c f n there =
      let w = well c f there in
      record {
        taken = w.taken;
        code_is = w.code_is;
        count = w.count ∙ sym (others_stay (known_at notes f.mpn).salt (bytes_in frames f.mpn) (λ e. n (sym w.code_is ∙ e)));
        some = w.some;
      }

  module _ (n : ℕ) (taken : IsTaken frames m) (count_is : n ≡ peers salt (bytes_in frames m) gs') (some : 1 ≤ n) where
    abbrev entry : SharedFrame
    entry = record { mpn = m; count = n }

    own_well : SharedWell hash gs' frames notes code entry
    own_well = record { taken = taken; code_is = rw salt_is code_is; count = rw salt_is count_is; some = some }

    well_choice : (c : ℕ) (f : SharedFrame) → ((c ≡ code) ⊎ (c ≡ code → ⊥)) → map.get (map.insert shared code entry) c ≡ Some f → SharedWell hash gs' frames notes c f
    well_choice c f (inl e) there =
        let is : entry ≡ f = same_frame (sym (ap (map.get (map.insert shared code entry)) e ∙ got_same shared code entry) ∙ there) in
        subst (λ (x : SharedFrame). SharedWell hash gs' frames notes c x) is (subst (λ (x : ℕ). SharedWell hash gs' frames notes x entry) (sym e) own_well)
    well_choice c f (inr n) there = other_well c f n (sym (got_other shared code entry c n) ∙ there)

    pub inserted_well : (c : ℕ) (f : SharedFrame) → map.get (map.insert shared code entry) c ≡ Some f → SharedWell hash gs' frames notes c f
    inserted_well c f there = well_choice c f (cases_eq c code) there

-- calm, for each kind of page
pub calm_shared : (hash : ℕ → List ℕ → ℕ) (frames : FrameMap) (salt m code : ℕ) → hash salt (bytes_in frames m) ≡ code → (s : ℕ) (bs : List ℕ) → (hash s bs ≡ code → ⊥) → is_shared_as s bs salt (slot_in frames (Shared m)) ≡ false
calm_shared hash frames salt m code e s bs n = other_content hash s salt bs (bytes_in frames m) (λ h. n (h ∙ e))

-- a listed frame, after an insertion under the code with the same frame
pub listed_insert : (shared : SharedMap) (code m n : ℕ) (was : (f : SharedFrame) → map.get shared code ≡ Some f → f.mpn ≡ m) (c k : ℕ) → ((c ≡ code) ⊎ (c ≡ code → ⊥)) → Listed shared c k → Listed (map.insert shared code (record { mpn = m; count = n })) c k
listed_insert shared code m n was c k (inl e) l =
    let same : k ≡ m = was (record { mpn = k; count = l.count }) (ap (map.get shared) (sym e) ∙ l.here) in
    record { count = n; here = ap (map.get (map.insert shared code (record { mpn = m; count = n }))) e ∙ got_same shared code (record { mpn = m; count = n }) ∙ ap (λ (x : ℕ). let f : SharedFrame = record { mpn = x; count = n } in Some f) (sym same) }
listed_insert shared code m n was c k (inr d) l = record { count = l.count; here = got_other shared code (record { mpn = m; count = n }) c d ∙ l.here }

-- no other page's frame: an insertion under the code with the same frame
pub apart_insert : (shared : SharedMap) (code m n k : ℕ) → ((c : ℕ) (f : SharedFrame) → map.get shared c ≡ Some f → f.mpn ≡ k → ⊥) → (m ≡ k → ⊥) → (c : ℕ) (f : SharedFrame) → ((c ≡ code) ⊎ (c ≡ code → ⊥)) → map.get (map.insert shared code (record { mpn = m; count = n })) c ≡ Some f → f.mpn ≡ k → ⊥
apart_insert shared code m n k old differ c f (inl e) there is =
    let same = same_frame (sym (ap (map.get (map.insert shared code (record { mpn = m; count = n }))) e ∙ got_same shared code (record { mpn = m; count = n })) ∙ there) in
    differ (ap (λ (x : SharedFrame). x.mpn) same ∙ is)
apart_insert shared code m n k old differ c f (inr d) there is = old c f (sym (got_other shared code (record { mpn = m; count = n }) c d) ∙ there) is

-- an unmapped page joins the frame under its hash
module _ (hash : ℕ → List ℕ → ℕ) (pmap : Pmap) (frames : FrameMap) (notes : List Known) (shared : SharedMap) (a b salt m code n : ℕ)
    (at : page_at pmap a b ≡ Some (salt, Unmapped)) (placed : Placed pmap frames) (noted : Noted hash pmap frames notes)
    (shares : Shares hash pmap frames notes shared) (found : map.get shared code ≡ Some (record { mpn = m; count = n }))
    (salt_is : (known_at notes m).salt ≡ salt) where
  abbrev was : SharedFrame
  was = record { mpn = m; count = n }

  join_well : SharedWell hash (guests_in frames pmap) frames notes code was
  join_well = shares.well code was found

  pub join_code : hash salt (bytes_in frames m) ≡ code
  join_code = ap (λ (x : ℕ). hash x (bytes_in frames m)) (sym salt_is) ∙ join_well.code_is

  same_shared : (k l : ℕ) → Shared k ≡ Shared l → k ≡ l
  same_shared k l e = cc

  no_private : (k l : ℕ) (h : Option ℕ) → Private k h ≡ Shared l → ⊥
  no_private k l h e = cc

  pub joined_placed : Placed (with_slot pmap a b (Shared m)) frames
  joined_placed = re_placed pmap frames a b salt Unmapped (Shared m) at
      (λ k f. subst (IsTaken frames) (same f) join_well.taken)
      (λ k h is. absurd (no_private k m h (sym is)))
      (λ k f c d s h apart there. shares.apart c d s k h code was there found (same f))
      placed where
        same : {k : ℕ} → Some m ≡ Some k → m ≡ k
        same e = cc

  pub joined_noted : Noted hash (with_slot pmap a b (Shared m)) frames notes
  joined_noted = re_noted pmap frames a b salt Unmapped (Shared m) at hash notes noted (λ k f. ap (λ (x : ℕ). (known_at notes x).salt) (sym (same f)) ∙ salt_is) where
    same : {k : ℕ} → Some m ≡ Some k → m ≡ k
    same e = cc

  pub joined_count : n + 1 ≡ peers salt (bytes_in frames m) (guests_in frames (with_slot pmap a b (Shared m)))
  joined_count =
      let e = rw (own_content salt (bytes_in frames m)) at (re_peers pmap frames a b salt Unmapped (Shared m) at salt (bytes_in frames m)) in
      let w = rw salt_is at join_well.count in
      omega (arith, e, w)

  abbrev now : SharedMap
  now = map.insert shared code (record { mpn = m; count = n + 1 })

  joined_listed : (c d s k : ℕ) → Changed pmap a b salt (Shared m) c d s (Shared k) → Listed now (hash s (bytes_in frames k)) k
  joined_listed c d s k (here ca db ss is) =
      let e : k ≡ m = same_shared k m is in
      record { count = n + 1; here = rw (e, ss, join_code) (got_same shared code (record { mpn = m; count = n + 1 })) }
  joined_listed c d s k (elsewhere apart there) =
      listed_insert shared code m (n + 1) (λ f at. ap (λ (x : SharedFrame). x.mpn) (same_frame (sym at ∙ found))) (hash s (bytes_in frames k)) k (cases_eq (hash s (bytes_in frames k)) code) (shares.listed c d s k there)

  joined_apart : (c d s k : ℕ) (h : Option ℕ) (o : ℕ) (f : SharedFrame) → Changed pmap a b salt (Shared m) c d s (Private k h) → map.get now o ≡ Some f → f.mpn ≡ k → ⊥
  joined_apart c d s k h o f (here ca db ss is) there e = no_private k m h is
  joined_apart c d s k h o f (elsewhere apart there') there e =
      apart_insert shared code m (n + 1) k (λ o f. shares.apart c d s k h o f there') (λ q. shares.apart c d s k h code was there' found q) o f (cases_eq o code) there e

  pub joined_shares : Shares hash (with_slot pmap a b (Shared m)) frames notes now
  joined_shares = record {
    listed = λ c d s k there. joined_listed c d s k (at_changed pmap a b salt Unmapped (Shared m) at c d s (Shared k) there);
    well = inserted_well hash pmap frames notes shared a b salt m code Unmapped (Shared m) at join_code salt_is (λ s bs n. refl) (calm_shared hash frames salt m code join_code) shares.well (n + 1) join_well.taken joined_count (omega arith);
    apart = λ c d s k h o f there there' e. joined_apart c d s k h o f (at_changed pmap a b salt Unmapped (Shared m) at c d s (Private k h) there) there' e;
  }

-- a shared page, not the last of its content, is unmapped
module _ (hash : ℕ → List ℕ → ℕ) (pmap : Pmap) (frames : FrameMap) (notes : List Known) (shared : SharedMap) (a b salt m code n : ℕ)
    (at : page_at pmap a b ≡ Some (salt, Shared m)) (placed : Placed pmap frames) (noted : Noted hash pmap frames notes)
    (shares : Shares hash pmap frames notes shared) (found : map.get shared code ≡ Some (record { mpn = m; count = n + 1 }))
    (some : 1 ≤ n) where
  abbrev left : SharedFrame
  left = record { mpn = m; count = n + 1 }

  left_salt : (known_at notes m).salt ≡ salt
  left_salt = noted.salts a b salt (Shared m) m at refl

  left_well : SharedWell hash (guests_in frames pmap) frames notes code left
  left_well = shares.well code left found

  left_code : hash salt (bytes_in frames m) ≡ code
  left_code = ap (λ (x : ℕ). hash x (bytes_in frames m)) (sym left_salt) ∙ left_well.code_is

  no_frame : (k : ℕ) → None ≡ Some k → ⊥
  no_frame k e = cc

  private_no : (k : ℕ) (h : Option ℕ) → Unmapped ≡ Private k h → ⊥
  private_no k h e = cc

  shared_no : (k : ℕ) → Shared k ≡ Unmapped → ⊥
  shared_no k e = cc

  pub left_placed : Placed (with_slot pmap a b Unmapped) frames
  left_placed = re_placed pmap frames a b salt (Shared m) Unmapped at (λ k f. absurd (no_frame k f)) (λ k h is. absurd (private_no k h is)) (λ k f. absurd (no_frame k f)) placed

  pub left_noted : Noted hash (with_slot pmap a b Unmapped) frames notes
  left_noted = re_noted pmap frames a b salt (Shared m) Unmapped at hash notes noted (λ k f. absurd (no_frame k f))

  pub left_count : n ≡ peers salt (bytes_in frames m) (guests_in frames (with_slot pmap a b Unmapped))
  left_count =
      let e = rw (own_content salt (bytes_in frames m)) at (re_peers pmap frames a b salt (Shared m) Unmapped at salt (bytes_in frames m)) in
      let w = rw left_salt at left_well.count in
      omega (arith, e, w)

  abbrev less : SharedMap
  less = map.insert shared code (record { mpn = m; count = n })

  left_listed : (c d s k : ℕ) → Changed pmap a b salt Unmapped c d s (Shared k) → Listed less (hash s (bytes_in frames k)) k
  left_listed c d s k (here ca db ss is) = absurd (shared_no k is)
  left_listed c d s k (elsewhere apart there) =
      listed_insert shared code m n (λ f it. ap (λ (x : SharedFrame). x.mpn) (same_frame (sym it ∙ found))) (hash s (bytes_in frames k)) k (cases_eq (hash s (bytes_in frames k)) code) (shares.listed c d s k there)

  left_apart : (c d s k : ℕ) (h : Option ℕ) (o : ℕ) (f : SharedFrame) → Changed pmap a b salt Unmapped c d s (Private k h) → map.get less o ≡ Some f → f.mpn ≡ k → ⊥
  left_apart c d s k h o f (here ca db ss is) there e = private_no k h (sym is)
  left_apart c d s k h o f (elsewhere apart there') there e =
      apart_insert shared code m n k (λ o f. shares.apart c d s k h o f there') (λ q. shares.apart c d s k h code left there' found q) o f (cases_eq o code) there e

  pub left_shares : Shares hash (with_slot pmap a b Unmapped) frames notes less
  left_shares = record {
    listed = λ c d s k there. left_listed c d s k (at_changed pmap a b salt (Shared m) Unmapped at c d s (Shared k) there);
    well = inserted_well hash pmap frames notes shared a b salt m code (Shared m) Unmapped at left_code left_salt (calm_shared hash frames salt m code left_code) (λ s bs n. refl) shares.well n left_well.taken left_count some;
    apart = λ c d s k h o f there there' e. left_apart c d s k h o f (at_changed pmap a b salt (Shared m) Unmapped at c d s (Private k h) there) there' e;
  }

-- a shared page has peers
pub has_peer : (gs : List Guest) (c d s salt : ℕ) (bytes : List ℕ) → page_at gs c d ≡ Some (s, Shared bytes) → s ≡ salt → 1 ≤ peers salt bytes gs
has_peer gs c d s salt bytes at e =
    let moved : page_at gs c d ≡ Some (salt, Shared bytes) = at ∙ ap (λ (x : ℕ). let p : ℕ × Slot = (x, Shared bytes) in Some p) e in
    let counted = rw (own_content salt bytes) at (pages_counted (is_shared_as salt bytes) gs c d salt (Shared bytes) Unmapped moved) in
    omega (arith, counted)

-- the last shared page of its content becomes private
module _ (hash : ℕ → List ℕ → ℕ) (pmap : Pmap) (frames : FrameMap) (notes : List Known) (shared : SharedMap) (a b salt m code : ℕ)
    (at : page_at pmap a b ≡ Some (salt, Shared m)) (placed : Placed pmap frames) (noted : Noted hash pmap frames notes)
    (shares : Shares hash pmap frames notes shared) (found : map.get shared code ≡ Some (record { mpn = m; count = 1 })) where
  abbrev last : SharedFrame
  last = record { mpn = m; count = 1 }

  abbrev kept : Pmap
  kept = with_slot pmap a b (Private m None)

  kept_salt : (known_at notes m).salt ≡ salt
  kept_salt = noted.salts a b salt (Shared m) m at refl

  kept_well : SharedWell hash (guests_in frames pmap) frames notes code last
  kept_well = shares.well code last found

  kept_code : hash salt (bytes_in frames m) ≡ code
  kept_code = ap (λ (x : ℕ). hash x (bytes_in frames m)) (sym kept_salt) ∙ kept_well.code_is

  pub kept_count : 0 ≡ peers salt (bytes_in frames m) (guests_in frames kept)
  kept_count =
      let e = rw (own_content salt (bytes_in frames m)) at (re_peers pmap frames a b salt (Shared m) (Private m None) at salt (bytes_in frames m)) in
      let w = rw kept_salt at kept_well.count in
      omega (arith, e, w)

  sole : (c d s : ℕ) (slot : SlotOf ℕ) → (c ≡ a → d ≡ b → ⊥) → page_at pmap c d ≡ Some (s, slot) → frame_of slot ≡ Some m → ⊥
  sole c d s Unmapped apart there f = no_one m f where
    no_one : (k : ℕ) → None ≡ Some k → ⊥
    no_one k e = cc
  sole c d s (Private k h) apart there f = shares.apart c d s k h code last there found (same f) where
    same : Some k ≡ Some m → m ≡ k
    same e = cc
  sole c d s (Shared k) apart there f =
      let e : k ≡ m = same f in
      let it : page_at pmap c d ≡ Some (s, Shared m) = there ∙ ap (λ (x : ℕ). let p : ℕ × SlotOf ℕ = (s, Shared x) in Some p) e in
      let still : page_at kept c d ≡ Some (s, Shared m) = at_other pmap a b (Private m None) c d apart ∙ it in
      let salts : s ≡ salt = sym (noted.salts c d s (Shared m) m it refl) ∙ kept_salt in
      let two = has_peer (guests_in frames kept) c d s salt (bytes_in frames m) (page_in_is frames kept c d s (Shared m) still) salts in
      none (omega (arith, two, kept_count)) where
        same : Some k ≡ Some m → k ≡ m
        same e = cc

        none : 1 ≤ 0 → ⊥
        none h = omega arith

  same_frame_of : (k : ℕ) → Some m ≡ Some k → m ≡ k
  same_frame_of k e = cc

  same_own : (k : ℕ) (h : Option ℕ) → Private m None ≡ Private k h → m ≡ k
  same_own k h e = cc

  pub kept_placed : Placed kept frames
  kept_placed = re_placed pmap frames a b salt (Shared m) (Private m None) at
      (λ k f. subst (IsTaken frames) (same_frame_of k f) kept_well.taken)
      (λ k h is c d s slot apart there f. sole c d s slot apart there (f ∙ ap Some (sym (same_own k h is))))
      (λ k f c d s h apart there. sole c d s (Private k h) apart there (sym f))
      placed

  pub kept_noted : Noted hash kept frames notes
  kept_noted = re_noted pmap frames a b salt (Shared m) (Private m None) at hash notes noted (λ k f. ap (λ (x : ℕ). (known_at notes x).salt) (sym (same_frame_of k f)) ∙ kept_salt)

  abbrev gone : SharedMap
  gone = map.remove shared code

  not_code : (c : ℕ) (f : SharedFrame) → map.get gone c ≡ Some f → c ≢ code
  not_code c f there e = none_frame (sym there ∙ ap (map.get gone) e ∙ gone_same shared code)

  kept_listed : (c d s k : ℕ) → Changed pmap a b salt (Private m None) c d s (Shared k) → Listed gone (hash s (bytes_in frames k)) k
  kept_listed c d s k (here ca db ss is) = absurd (no is) where
    no : Shared k ≡ Private m None → ⊥
    no e = cc
  kept_listed c d s k (elsewhere apart there) =
      let l = shares.listed c d s k there in
      let n : hash s (bytes_in frames k) ≢ code = λ e.
      let same : k ≡ m = ap (λ (x : SharedFrame). x.mpn) (same_frame (sym (ap (map.get shared) (sym e) ∙ l.here) ∙ found)) in
      sole c d s (Shared k) apart there (ap Some same) in
      record { count = l.count; here = gone_other shared code (hash s (bytes_in frames k)) n ∙ l.here }

  kept_wells : (c : ℕ) (f : SharedFrame) → map.get gone c ≡ Some f → SharedWell hash (guests_in frames kept) frames notes c f
  kept_wells c f there =
      let n = not_code c f there in
      other_well hash pmap frames notes shared a b salt m code (Shared m) (Private m None) at kept_code kept_salt (calm_shared hash frames salt m code kept_code) (λ s bs n. refl) shares.well c f n (sym (gone_other shared code c n) ∙ there)

  kept_apart : (c d s k : ℕ) (h : Option ℕ) (o : ℕ) (f : SharedFrame) → Changed pmap a b salt (Private m None) c d s (Private k h) → map.get gone o ≡ Some f → f.mpn ≡ k → ⊥
  kept_apart c d s k h o f (here ca db ss is) there e =
      let n = not_code o f there in
      let w = shares.well o f (sym (gone_other shared code o n) ∙ there) in
      let same : f.mpn ≡ m = e ∙ sym (same_own k h (sym is)) in
      n (sym w.code_is ∙ ap (λ (x : ℕ). hash (known_at notes x).salt (bytes_in frames x)) same ∙ kept_well.code_is)
  kept_apart c d s k h o f (elsewhere apart there') there e = shares.apart c d s k h o f there' (sym (gone_other shared code o (not_code o f there)) ∙ there) e

  pub kept_shares : Shares hash kept frames notes gone
  kept_shares = record {
    listed = λ c d s k there. kept_listed c d s k (at_changed pmap a b salt (Shared m) (Private m None) at c d s (Shared k) there);
    well = kept_wells;
    apart = λ c d s k h o f there there' e. kept_apart c d s k h o f (at_changed pmap a b salt (Shared m) (Private m None) at c d s (Private k h) there) there' e;
  }
