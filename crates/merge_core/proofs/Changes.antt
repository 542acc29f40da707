-- What hangs together stays so at each single change of a page.
use Rattle.std.proofs.Common.{◌≡◌, ℕ, ◌<◌, List, length, Option, Some, None, refl, ap, sym, ◌∙◌, subst, arith, ◌⊎◌, inl, inr}
use Rattle.std.specs.Prelude.{slice_set}
use Rattle.std.proofs.lemmas.List.{length-set}
use Rattle.page_model.specs.Pages.{Unmapped, Private, page_at, with_slot}
use Rattle.page_model.proofs.Places.{unchanged}
use Rattle.machine_frames.specs.FrameMap.{FrameMap, frame, IsTaken}
use Rattle.share_table.specs.TableMaps.{TableMaps, without_hint, with_hint, hint_at, SharedFrame}
use Rattle.merge_core.specs.Pmap.{Pmap, bytes_in, guests_in, Known, known_at}
use Rattle.merge_core.specs.Ties.{Placed, Noted, Shares, SharedWell, Counted, Ties}
use Rattle.merge_core.proofs.FrameLemmas.{used_set, taken_within, bytes_are, known_same, known_other}
use Rattle.std.proofs.lemmas.Bool.{cases_eq}
use Rattle.merge_core.proofs.Views.{page_in_is}
use Rattle.merge_core.proofs.Fill.{Lone, lone_free, lone_private, fill_placed, fill_noted, fill_guests, fill_shares, less_placed, less_noted, less_guests, less_shares}
use Rattle.merge_core.proofs.Remaps.{re_guests, rehint_placed, rehint_noted, rehint_shares, dropped, put}
use Rattle.share_table.proofs.Maps.{len_new, len_gone}
use Rattle.merge_core.proofs.Numbers.{shift, hinted_calm}
use Rattle.merge_core.proofs.Owners.{same_owned, fill_owned, write_owned, less_owned}

-- a free frame is taken for an unmapped page
module _ (hash : ℕ → List ℕ → ℕ) (pmap : Pmap) (frames : FrameMap) (table : TableMaps) (notes : List Known) (a b salt m : ℕ) (bytes : List ℕ) (t : Ties hash pmap frames table notes) (at : page_at pmap a b ≡ Some (salt, Unmapped)) (within : m < length frames) (free : frame frames m ≡ None) where
  map_lone : Lone pmap table.shared a b m
  map_lone = lone_free hash pmap frames table notes a b m t free

  pub mapped_guests : guests_in (slice_set frames m (Some bytes)) (with_slot pmap a b (Private m None)) ≡ with_slot (guests_in frames pmap) a b (Private bytes None)
  mapped_guests = fill_guests pmap frames table.shared a b salt m Unmapped None bytes at map_lone within hash notes t.noted

  mapped_counted : Counted (guests_in (slice_set frames m (Some bytes)) (with_slot pmap a b (Private m None))) (slice_set frames m (Some bytes)) table
  mapped_counted =
      let s = shift (guests_in frames pmap) a b salt Unmapped (Private bytes None) (page_in_is frames pmap a b salt Unmapped at) in
      let u = rw free at (used_set frames m (Some bytes) within) in
      let c = t.counted in
      rw mapped_guests (record {
        capacity = omega (arith, c.capacity, length-set frames m (Some bytes));
        used = omega (arith, c.used, u, s.used);
        shared = omega (arith, c.shared, s.distinct);
        hints = omega (arith, c.hints, s.hints);
        references = omega (arith, c.references, s.shared);
      })

  pub mapped_ties : Ties hash (with_slot pmap a b (Private m None)) (slice_set frames m (Some bytes)) table (slice_set notes m (record { salt = salt; hash = None }))
  mapped_ties = record {
    placed = fill_placed pmap frames table.shared a b salt m Unmapped None bytes at map_lone within t.placed;
    noted = fill_noted pmap frames table.shared a b salt m Unmapped None bytes at map_lone within hash notes t.noted;
    shares = fill_shares pmap frames table.shared a b salt m Unmapped None bytes at map_lone within hash notes t.noted (λ s bs. refl) t.shares;
    hinted = hinted_calm pmap table.hints a b salt Unmapped (Private m None) at refl refl t.hinted;
    counted = mapped_counted;
    owned = fill_owned pmap frames a b salt m bytes at t.owned;
  }

-- bytes are written into a private page's frame
module _ (hash : ℕ → List ℕ → ℕ) (pmap : Pmap) (frames : FrameMap) (table : TableMaps) (notes : List Known) (a b salt m : ℕ) (hint : Option ℕ) (bytes : List ℕ) (t : Ties hash pmap frames table notes) (at : page_at pmap a b ≡ Some (salt, Private m hint)) where
  write_lone : Lone pmap table.shared a b m
  write_lone = lone_private hash pmap frames table notes a b salt m hint t at

  write_taken : IsTaken frames m
  write_taken = t.placed.taken a b salt (Private m hint) m at refl

  pub write_within : m < length frames
  write_within = taken_within frames m write_taken

  same_pmap : with_slot pmap a b (Private m hint) ≡ pmap
  same_pmap = unchanged pmap a b salt (Private m hint) at

  pub written_guests : guests_in (slice_set frames m (Some bytes)) pmap ≡ with_slot (guests_in frames pmap) a b (Private bytes hint)
  written_guests =
      ap (guests_in (slice_set frames m (Some bytes))) (sym same_pmap)
      ∙ fill_guests pmap frames table.shared a b salt m (Private m hint) hint bytes at write_lone write_within hash notes t.noted

  written_counted : Counted (guests_in (slice_set frames m (Some bytes)) pmap) (slice_set frames m (Some bytes)) table
  written_counted =
      let s = shift (guests_in frames pmap) a b salt (Private (bytes_in frames m) hint) (Private bytes hint) (page_in_is frames pmap a b salt (Private m hint) at) in
      let u = rw (bytes_are frames m write_taken) at (used_set frames m (Some bytes) write_within) in
      let c = t.counted in
      rw written_guests (record {
        capacity = omega (arith, c.capacity, length-set frames m (Some bytes));
        used = omega (arith, c.used, u, s.used);
        shared = omega (arith, c.shared, s.distinct);
        hints = omega (arith, c.hints, s.hints);
        references = omega (arith, c.references, s.shared);
      })

  pub written_ties : Ties hash pmap (slice_set frames m (Some bytes)) table (slice_set notes m (record { salt = salt; hash = None }))
  written_ties = record {
    placed = subst (λ (n : Pmap). Placed n (slice_set frames m (Some bytes))) same_pmap (fill_placed pmap frames table.shared a b salt m (Private m hint) hint bytes at write_lone write_within t.placed);
    noted = subst (λ (n : Pmap). Noted hash n (slice_set frames m (Some bytes)) (slice_set notes m (record { salt = salt; hash = None }))) same_pmap (fill_noted pmap frames table.shared a b salt m (Private m hint) hint bytes at write_lone write_within hash notes t.noted);
    shares =
        subst (λ (n : Pmap). Shares hash n (slice_set frames m (Some bytes)) (slice_set notes m (record { salt = salt; hash = None }))
        table.shared) same_pmap (fill_shares pmap frames table.shared a b salt m (Private m hint) hint bytes at write_lone write_within
        hash notes t.noted (λ s bs. refl) t.shares);
    hinted = t.hinted;
    counted = written_counted;
    owned = write_owned pmap frames a b salt m hint bytes at t.owned;
  }

-- a private page's hint goes
module _ (hash : ℕ → List ℕ → ℕ) (pmap : Pmap) (frames : FrameMap) (table : TableMaps) (notes : List Known) (a b salt m key : ℕ) (t : Ties hash pmap frames table notes) (at : page_at pmap a b ≡ Some (salt, Private m (Some key))) where
  pub dropped_guests : guests_in frames (with_slot pmap a b (Private m None)) ≡ with_slot (guests_in frames pmap) a b (Private (bytes_in frames m) None)
  dropped_guests = re_guests pmap frames a b salt (Private m (Some key)) (Private m None) at

  dropped_counted : Counted (guests_in frames (with_slot pmap a b (Private m None))) frames (without_hint table key)
  dropped_counted =
      let s = shift (guests_in frames pmap) a b salt (Private (bytes_in frames m) (Some key)) (Private (bytes_in frames m) None) (page_in_is frames pmap a b salt (Private m (Some key)) at) in
      let c = t.counted in
      let l = len_gone table.hints key _ (t.hinted.there a b salt m key at) in
      rw dropped_guests (record {
        capacity = c.capacity;
        used = omega (arith, c.used, s.used);
        shared = omega (arith, c.shared, s.distinct);
        hints = omega (arith, c.hints, s.hints, l);
        references = omega (arith, c.references, s.shared);
      })

  pub dropped_ties : Ties hash (with_slot pmap a b (Private m None)) frames (without_hint table key) notes
  dropped_ties = record {
    placed = rehint_placed pmap frames a b salt m (Some key) None at t.placed;
    noted = rehint_noted pmap frames a b salt m (Some key) None at hash notes t.noted;
    shares = rehint_shares pmap frames a b salt m (Some key) None at hash notes table.shared t.shares;
    hinted = dropped pmap table.hints a b salt m key at t.hinted;
    counted = dropped_counted;
    owned = same_owned pmap frames a b salt (Private m (Some key)) (Private m None) at refl t.owned;
  }

-- a private page gets a hint
module _ (hash : ℕ → List ℕ → ℕ) (pmap : Pmap) (frames : FrameMap) (table : TableMaps) (notes : List Known) (a b salt m key : ℕ) (t : Ties hash pmap frames table notes) (at : page_at pmap a b ≡ Some (salt, Private m None)) (absent : hint_at table key ≡ None) where
  pub put_guests : guests_in frames (with_slot pmap a b (Private m (Some key))) ≡ with_slot (guests_in frames pmap) a b (Private (bytes_in frames m) (Some key))
  put_guests = re_guests pmap frames a b salt (Private m None) (Private m (Some key)) at

  put_counted : Counted (guests_in frames (with_slot pmap a b (Private m (Some key)))) frames (with_hint table key a b m)
  put_counted =
      let s = shift (guests_in frames pmap) a b salt (Private (bytes_in frames m) None) (Private (bytes_in frames m) (Some key)) (page_in_is frames pmap a b salt (Private m None) at) in
      let c = t.counted in
      let l = len_new table.hints key (record { guest = a; ppn = b; mpn = m }) absent in
      rw put_guests (record {
        capacity = c.capacity;
        used = omega (arith, c.used, s.used);
        shared = omega (arith, c.shared, s.distinct);
        hints = omega (arith, c.hints, s.hints, l);
        references = omega (arith, c.references, s.shared);
      })

  pub put_ties : Ties hash (with_slot pmap a b (Private m (Some key))) frames (with_hint table key a b m) notes
  put_ties = record {
    placed = rehint_placed pmap frames a b salt m None (Some key) at t.placed;
    noted = rehint_noted pmap frames a b salt m None (Some key) at hash notes t.noted;
    shares = rehint_shares pmap frames a b salt m None (Some key) at hash notes table.shared t.shares;
    hinted = put pmap table.hints a b salt m key at absent t.hinted;
    counted = put_counted;
    owned = same_owned pmap frames a b salt (Private m None) (Private m (Some key)) at refl t.owned;
  }

-- a private page is unmapped
module _ (hash : ℕ → List ℕ → ℕ) (pmap : Pmap) (frames : FrameMap) (table : TableMaps) (notes : List Known) (a b salt m : ℕ) (t : Ties hash pmap frames table notes) (at : page_at pmap a b ≡ Some (salt, Private m None)) where
  less_lone : Lone pmap table.shared a b m
  less_lone = lone_private hash pmap frames table notes a b salt m None t at

  pub less_is_taken : IsTaken frames m
  less_is_taken = t.placed.taken a b salt (Private m None) m at refl

  less_within : m < length frames
  less_within = taken_within frames m less_is_taken

  pub unmapped_guests : guests_in (slice_set frames m None) (with_slot pmap a b Unmapped) ≡ with_slot (guests_in frames pmap) a b Unmapped
  unmapped_guests = less_guests pmap frames table.shared a b salt m None at less_lone less_within hash notes t.noted

  unmapped_counted : Counted (guests_in (slice_set frames m None) (with_slot pmap a b Unmapped)) (slice_set frames m None) table
  unmapped_counted =
      let s = shift (guests_in frames pmap) a b salt (Private (bytes_in frames m) None) Unmapped (page_in_is frames pmap a b salt (Private m None) at) in
      let u = rw (bytes_are frames m less_is_taken) at (used_set frames m None less_within) in
      let c = t.counted in
      rw unmapped_guests (record {
        capacity = omega (arith, c.capacity, length-set frames m None);
        used = omega (arith, c.used, u, s.used);
        shared = omega (arith, c.shared, s.distinct);
        hints = omega (arith, c.hints, s.hints);
        references = omega (arith, c.references, s.shared);
      })

  pub unmapped_ties : Ties hash (with_slot pmap a b Unmapped) (slice_set frames m None) table notes
  unmapped_ties = record {
    placed = less_placed pmap frames table.shared a b salt m None at less_lone less_within t.placed;
    noted = less_noted pmap frames table.shared a b salt m None at less_lone less_within hash notes t.noted;
    shares = less_shares pmap frames table.shared a b salt m None at less_lone less_within hash notes t.noted t.shares;
    hinted = hinted_calm pmap table.hints a b salt (Private m None) Unmapped at refl refl t.hinted;
    counted = unmapped_counted;
    owned = less_owned pmap frames a b salt m at less_within t.owned;
  }

-- a hash is noted
module _ (hash : ℕ → List ℕ → ℕ) (pmap : Pmap) (frames : FrameMap) (table : TableMaps) (notes : List Known) (m salt code : ℕ) (t : Ties hash pmap frames table notes) (taken : IsTaken frames m) (salt_is : (known_at notes m).salt ≡ salt) (code_is : code ≡ hash salt (bytes_in frames m)) where
  abbrev learnt : List Known
  learnt = slice_set notes m (record { salt = salt; hash = Some code })

  in_learnt : m < length notes
  in_learnt = omega (arith, t.noted.len, taken_within frames m taken)

  salt_choice : (k : ℕ) → ((k ≡ m) ⊎ (k ≡ m → ⊥)) → (known_at learnt k).salt ≡ (known_at notes k).salt
  salt_choice k (inl e) = rw (e, known_same notes m (record { salt = salt; hash = Some code }) in_learnt) (sym salt_is)
  salt_choice k (inr n) = rw (known_other notes m k (record { salt = salt; hash = Some code }) n) refl

  same_salt : (k : ℕ) → (known_at learnt k).salt ≡ (known_at notes k).salt
  same_salt k = salt_choice k (cases_eq k m)

  hash_choice : (k c : ℕ) → ((k ≡ m) ⊎ (k ≡ m → ⊥)) → IsTaken frames k → (known_at learnt k).hash ≡ Some c → c ≡ hash (known_at learnt k).salt (bytes_in frames k)
  hash_choice k c (inl e) there is =
      let now : known_at learnt k ≡ record { salt = salt; hash = Some code } = ap (known_at learnt) e ∙ known_same notes m (record { salt = salt; hash = Some code }) in_learnt in
      let same : code ≡ c = got (sym (ap (λ (x : Known). x.hash) now) ∙ is) in
      sym same ∙ code_is ∙ ap (λ (x : ℕ). hash x (bytes_in frames m)) (ap (λ (x : Known). x.salt) (sym now)) ∙ ap (λ (x : ℕ). hash (known_at learnt k).salt (bytes_in frames x)) (sym e) where
        got : Some code ≡ Some c → code ≡ c
        got e = cc
  hash_choice k c (inr n) there is =
      let note : known_at learnt k ≡ known_at notes k = known_other notes m k (record { salt = salt; hash = Some code }) n in
      rw note (t.noted.hashes k c there (ap (λ (x : Known). x.hash) (sym note) ∙ is))

  learnt_well : (c : ℕ) (f : SharedFrame) → SharedWell hash (guests_in frames pmap) frames notes c f → SharedWell hash (guests_in frames pmap) frames learnt c f
  learnt_well c f w = record { taken = w.taken; code_is = rw (same_salt f.mpn) w.code_is; count = rw (same_salt f.mpn) w.count; some = w.some }

  pub learnt_ties : Ties hash pmap frames table learnt
  learnt_ties = record {
    placed = t.placed;
    noted = record {
      len = omega (arith, t.noted.len, length-set notes m (record { salt = salt; hash = Some code }));
      salts = λ a b s slot k there f. same_salt k ∙ t.noted.salts a b s slot k there f;
      hashes = λ k c there is. hash_choice k c (cases_eq k m) there is;
    };
    shares = record {
      listed = t.shares.listed;
      well = λ c f there. learnt_well c f (t.shares.well c f there);
      apart = t.shares.apart;
    };
    hinted = t.hinted;
    counted = t.counted;
    owned = t.owned;
  }
