-- A change of one page's entry in the pmap, under frames and notes that stay.
use Rattle.std.proofs.Common.{◌≡◌, ◌≢◌, ℕ, ◌+◌, List, Option, Some, None, refl, ap, sym, ◌∙◌, subst, ◌⊎◌, inl, inr, arith}
use Rattle.std.specs.FinMap as map
use Rattle.std.proofs.lemmas.Bool.{cases_eq}
use Rattle.page_model.specs.Pages.{SlotOf, Private, Shared, page_at, with_slot, is_shared_as, peers}
use Rattle.page_model.proofs.Places.{at_changed, here, elsewhere, Changed, at_same, at_other, same_page}
use Rattle.page_model.proofs.Used.{pages_counted, one}
use Rattle.machine_frames.specs.FrameMap.{FrameMap, IsTaken}
use Rattle.share_table.specs.TableMaps.{SharedMap, SharedFrame, HintMap}
use Rattle.share_table.specs.declared.entries.HintFrame.{HintFrame}
use Rattle.share_table.proofs.Maps.{got_same, got_other, gone_same, gone_other}
use Rattle.merge_core.specs.Pmap.{Pmap, bytes_in, slot_in, guests_in, frame_of, Known, known_at}
use Rattle.merge_core.specs.Ties.{Placed, Noted, Listed, Shares, HintWell, Hinted}
use Rattle.merge_core.proofs.Views.{guests_but, page_in_is}

same_some : (x y : ℕ) → Some x ≡ Some y → x ≡ y
same_some x y e = cc

module _ (pmap : Pmap) (frames : FrameMap) (a b salt : ℕ) (old new : SlotOf ℕ) (at : page_at pmap a b ≡ Some (salt, old)) where
  pub re_guests : guests_in frames (with_slot pmap a b new) ≡ with_slot (guests_in frames pmap) a b (slot_in frames new)
  re_guests = guests_but frames frames pmap a b new (λ c d s slot apart there. refl)

  pub re_peers : (s : ℕ) (bs : List ℕ) → peers s bs (guests_in frames (with_slot pmap a b new)) + one (is_shared_as s bs salt (slot_in frames old)) ≡ peers s bs (guests_in frames pmap) + one (is_shared_as s bs salt (slot_in frames new))
  re_peers s bs = rw re_guests (pages_counted (is_shared_as s bs) (guests_in frames pmap) a b salt (slot_in frames old) (slot_in frames new) (page_in_is frames pmap a b salt old at))

  -- what the new entry owes the others
  module _ (taken : (k : ℕ) → frame_of new ≡ Some k → IsTaken frames k)
      (lonely : (k : ℕ) (h : Option ℕ) → new ≡ Private k h → (c d s : ℕ) (slot : SlotOf ℕ) → (c ≡ a → d ≡ b → ⊥) →
      page_at pmap c d ≡ Some (s, slot) → frame_of slot ≡ Some k → ⊥)
      (joint : (k : ℕ) → frame_of new ≡ Some k → (c d s : ℕ) (h : Option ℕ) → (c ≡ a → d ≡ b → ⊥) →
      page_at pmap c d ≡ Some (s, Private k h) → ⊥) (p : Placed pmap frames) where
    re_taken : (c d s : ℕ) (slot : SlotOf ℕ) (k : ℕ) → Changed pmap a b salt new c d s slot → frame_of slot ≡ Some k → IsTaken frames k
    re_taken c d s slot k (here ca db ss is) f = taken k (sym (ap frame_of is) ∙ f)
    re_taken c d s slot k (elsewhere apart there) f = p.taken c d s slot k there f

    re_alone : (c d s k : ℕ) (h : Option ℕ) (e f t : ℕ) (slot : SlotOf ℕ) → Changed pmap a b salt new c d s (Private k h) → Changed pmap a b salt new e f t slot → frame_of slot ≡ Some k → (e ≡ c) × (f ≡ d)
    re_alone c d s k h e f t slot (here ca db ss is) (here ea fb tt is') fr = (ea ∙ sym ca, fb ∙ sym db)
    re_alone c d s k h e f t slot (here ca db ss is) (elsewhere apart there) fr = absurd (lonely k h (sym is) e f t slot apart there fr)
    re_alone c d s k h e f t slot (elsewhere apart there) (here ea fb tt is') fr = absurd (joint k (sym (ap frame_of is') ∙ fr) c d s h apart there)
    re_alone c d s k h e f t slot (elsewhere apart there) (elsewhere apart' there') fr = p.alone c d s k h e f t slot there there' fr

    pub re_placed : Placed (with_slot pmap a b new) frames
    re_placed = record {
      taken = λ c d s slot k there f. re_taken c d s slot k (at_changed pmap a b salt old new at c d s slot there) f;
      alone = λ c d s k h e f t slot there there' fr. re_alone c d s k h e f t slot (at_changed pmap a b salt old new at c d s (Private k h) there) (at_changed pmap a b salt old new at e f t slot there') fr;
    }

  module _ (hash : ℕ → List ℕ → ℕ) (notes : List Known) (noted : Noted hash pmap frames notes) (salts : (k : ℕ) → frame_of new ≡ Some k → (known_at notes k).salt ≡ salt) where
    re_salts : (c d s : ℕ) (slot : SlotOf ℕ) (k : ℕ) → Changed pmap a b salt new c d s slot → frame_of slot ≡ Some k → (known_at notes k).salt ≡ s
    re_salts c d s slot k (here ca db ss is) f = salts k (sym (ap frame_of is) ∙ f) ∙ sym ss
    re_salts c d s slot k (elsewhere apart there) f = noted.salts c d s slot k there f

    pub re_noted : Noted hash (with_slot pmap a b new) frames notes
    re_noted = record {
      len = noted.len;
      salts = λ c d s slot k there f. re_salts c d s slot k (at_changed pmap a b salt old new at c d s slot there) f;
      hashes = noted.hashes;
    }

-- another hint of a private page
module _ (pmap : Pmap) (frames : FrameMap) (a b salt m : ℕ) (old new : Option ℕ) (at : page_at pmap a b ≡ Some (salt, Private m old)) where
  same_private : (x y : ℕ) (h j : Option ℕ) → Private x h ≡ Private y j → x ≡ y
  same_private x y h j e = cc

  hint_lonely : Placed pmap frames → (k : ℕ) (h : Option ℕ) → Private m new ≡ Private k h → (c d s : ℕ) (slot : SlotOf ℕ) → (c ≡ a → d ≡ b → ⊥) → page_at pmap c d ≡ Some (s, slot) → frame_of slot ≡ Some k → ⊥
  hint_lonely p k h is c d s slot apart there f =
      let same = p.alone a b salt m old c d s slot at there (f ∙ ap Some (sym (same_private m k new h is))) in apart same.0 same.1

  pub rehint_placed : Placed pmap frames → Placed (with_slot pmap a b (Private m new)) frames
  rehint_placed p = re_placed pmap frames a b salt (Private m old) (Private m new) at (λ k f. p.taken a b salt (Private m old) k at f) (hint_lonely p) (λ k f c d s h apart there. let same = p.alone a b salt m old c d s (Private k h) at there (sym f) in apart same.0 same.1) p

  pub rehint_noted : (hash : ℕ → List ℕ → ℕ) (notes : List Known) → Noted hash pmap frames notes → Noted hash (with_slot pmap a b (Private m new)) frames notes
  rehint_noted hash notes n = re_noted pmap frames a b salt (Private m old) (Private m new) at hash notes n (λ k f. n.salts a b salt (Private m old) k at f)

  module _ (hash : ℕ → List ℕ → ℕ) (notes : List Known) (shared : SharedMap) (shares : Shares hash pmap frames notes shared) where
    rehint_peers : (s : ℕ) (bs : List ℕ) → peers s bs (guests_in frames (with_slot pmap a b (Private m new))) ≡ peers s bs (guests_in frames pmap)
    rehint_peers s bs = omega (arith, re_peers pmap frames a b salt (Private m old) (Private m new) at s bs)

    rehint_listed : (c d s k : ℕ) → Changed pmap a b salt (Private m new) c d s (Shared k) → Listed shared (hash s (bytes_in frames k)) k
    rehint_listed c d s k (here ca db ss is) = absurd (no is) where
      no : Shared k ≡ Private m new → ⊥
      no e = cc
    rehint_listed c d s k (elsewhere apart there) = shares.listed c d s k there

    rehint_apart : (c d s k : ℕ) (h : Option ℕ) (code : ℕ) (f : SharedFrame) → Changed pmap a b salt (Private m new) c d s (Private k h) → map.get shared code ≡ Some f → f.mpn ≡ k → ⊥
    rehint_apart c d s k h code f (here ca db ss is) there e = shares.apart a b salt m old code f at there (e ∙ same_private k m h new is)
    rehint_apart c d s k h code f (elsewhere apart there') there e = shares.apart c d s k h code f there' there e

    pub rehint_shares : Shares hash (with_slot pmap a b (Private m new)) frames notes shared
    rehint_shares = record {
      listed = λ c d s k there. rehint_listed c d s k (at_changed pmap a b salt (Private m old) (Private m new) at c d s (Shared k) there);
      well = λ code f there. let w = shares.well code f there in record { taken = w.taken; code_is = w.code_is; count = w.count ∙ sym (rehint_peers (known_at notes f.mpn).salt (bytes_in frames f.mpn)); some = w.some };
      apart = λ c d s k h code f there there' e. rehint_apart c d s k h code f (at_changed pmap a b salt (Private m old) (Private m new) at c d s (Private k h) there) there' e;
    }

-- the hints after a hint goes
module _ (pmap : Pmap) (hints : HintMap) (a b salt m key : ℕ) (at : page_at pmap a b ≡ Some (salt, Private m (Some key))) (hinted : Hinted pmap hints) where
  same_hint : (c d k : ℕ) (x : HintFrame) → map.get hints key ≡ Some x → map.get hints key ≡ Some (record { guest = a; ppn = b; mpn = m }) → (x.guest ≡ a) × (x.ppn ≡ b)
  same_hint c d k x e f =
      let mine : HintFrame = record { guest = a; ppn = b; mpn = m } in
      let h : x ≡ mine = cc in
      (ap (λ (y : HintFrame). y.guest) h, ap (λ (y : HintFrame). y.ppn) h)

  other_key : (c d s k other : ℕ) → (c ≡ a → d ≡ b → ⊥) → page_at pmap c d ≡ Some (s, Private k (Some other)) → other ≢ key
  other_key c d s k other apart there e =
      let x : HintFrame = record { guest = c; ppn = d; mpn = k } in
      let same = same_hint c d k x (ap (map.get hints) (sym e) ∙ hinted.there c d s k other there) (hinted.there a b salt m key at) in
      apart same.0 same.1

  dropped_there : (c d s k other : ℕ) → Changed pmap a b salt (Private m None) c d s (Private k (Some other)) → map.get (map.remove hints key) other ≡ Some (record { guest = c; ppn = d; mpn = k })
  dropped_there c d s k other (here ca db ss is) = absurd (no is) where
    no : Private k (Some other) ≡ Private m None → ⊥
    no e = cc
  dropped_there c d s k other (elsewhere apart there) = gone_other hints key other (other_key c d s k other apart there) ∙ hinted.there c d s k other there

  dropped_well : (other : ℕ) (h : HintFrame) → ((other ≡ key) ⊎ (other ≡ key → ⊥)) → map.get (map.remove hints key) other ≡ Some h → HintWell (with_slot pmap a b (Private m None)) other h
  dropped_well other h (inl e) there = absurd (no (sym there ∙ ap (map.get (map.remove hints key)) e ∙ gone_same hints key)) where
    no : Some h ≡ None → ⊥
    no e = cc
  dropped_well other h (inr n) there =
      let w = hinted.well other h (sym (gone_other hints key other n) ∙ there) in
      let same_key : (x y : ℕ) → Private h.mpn (Some x) ≡ Private m (Some y) → x ≡ y = λ x y e. cc in
      let apart : h.guest ≡ a → h.ppn ≡ b → ⊥ = λ e f.
      let moved : page_at pmap a b ≡ Some (w.salt, Private h.mpn (Some other)) = ap (λ (i : ℕ). page_at pmap i b) (sym e) ∙ ap (λ (i : ℕ). page_at pmap h.guest i) (sym f) ∙ w.here in
      let same = same_page (page_at pmap a b) w.salt salt (Private h.mpn (Some other)) (Private m (Some key)) moved at in
      n (same_key other key same.1) in
      record { salt = w.salt; here = at_other pmap a b (Private m None) h.guest h.ppn apart ∙ w.here }

  pub dropped : Hinted (with_slot pmap a b (Private m None)) (map.remove hints key)
  dropped = record {
    there = λ c d s k other there. dropped_there c d s k other (at_changed pmap a b salt (Private m (Some key)) (Private m None) at c d s (Private k (Some other)) there);
    well = λ other h there. dropped_well other h (cases_eq other key) there;
  }

-- the hints after a hint is put
module _ (pmap : Pmap) (hints : HintMap) (a b salt m key : ℕ) (at : page_at pmap a b ≡ Some (salt, Private m None)) (absent : map.get hints key ≡ None) (hinted : Hinted pmap hints) where
  abbrev mine : HintFrame
  mine = record { guest = a; ppn = b; mpn = m }

  put_parts : (k other : ℕ) → Private k (Some other) ≡ Private m (Some key) → (k ≡ m) × (other ≡ key)
  put_parts k other e = (one e, two e) where
    one : Private k (Some other) ≡ Private m (Some key) → k ≡ m
    one e = cc

    two : Private k (Some other) ≡ Private m (Some key) → other ≡ key
    two e = cc

  put_there : (c d s k other : ℕ) → Changed pmap a b salt (Private m (Some key)) c d s (Private k (Some other)) → map.get (map.insert hints key mine) other ≡ Some (record { guest = c; ppn = d; mpn = k })
  put_there c d s k other (here ca db ss is) =
      let parts = put_parts k other is in
      let same : mine ≡ record { guest = c; ppn = d; mpn = k } = rw (ca, db, parts.0) refl in
      ap (map.get (map.insert hints key mine)) parts.1 ∙ got_same hints key mine ∙ ap Some same
  put_there c d s k other (elsewhere apart there) =
      let n : other ≢ key = λ e. no (sym (ap (map.get hints) (sym e) ∙ hinted.there c d s k other there) ∙ absent) in
      got_other hints key mine other n ∙ hinted.there c d s k other there where
        no : {x : HintFrame} → Some x ≡ None → ⊥
        no e = cc

  put_well : (other : ℕ) (h : HintFrame) → ((other ≡ key) ⊎ (other ≡ key → ⊥)) → map.get (map.insert hints key mine) other ≡ Some h → HintWell (with_slot pmap a b (Private m (Some key))) other h
  put_well other h (inl e) there =
      let is : mine ≡ h = same (sym (ap (map.get (map.insert hints key mine)) e ∙ got_same hints key mine) ∙ there) in
      subst (λ (x : HintFrame). HintWell (with_slot pmap a b (Private m (Some key))) other x) is (record { salt = salt; here = rw e (at_same pmap a b salt (Private m None) (Private m (Some key)) at) }) where
        same : {x y : HintFrame} → Some x ≡ Some y → x ≡ y
        same e = cc
  put_well other h (inr n) there =
      let w = hinted.well other h (sym (got_other hints key mine other n) ∙ there) in
      let apart : h.guest ≡ a → h.ppn ≡ b → ⊥ = λ e f.
      let moved : page_at pmap a b ≡ Some (w.salt, Private h.mpn (Some other)) = ap (λ (i : ℕ). page_at pmap i b) (sym e) ∙ ap (λ (i : ℕ). page_at pmap h.guest i) (sym f) ∙ w.here in
      let same = same_page (page_at pmap a b) w.salt salt (Private h.mpn (Some other)) (Private m None) moved at in
      no same.1 in
      record { salt = w.salt; here = at_other pmap a b (Private m (Some key)) h.guest h.ppn apart ∙ w.here } where
        no : Private h.mpn (Some other) ≡ Private m None → ⊥
        no e = cc

  pub put : Hinted (with_slot pmap a b (Private m (Some key))) (map.insert hints key mine)
  put = record {
    there = λ c d s k other there. put_there c d s k other (at_changed pmap a b salt (Private m None) (Private m (Some key)) at c d s (Private k (Some other)) there);
    well = λ other h there. put_well other h (cases_eq other key) there;
  }
