-- What a core shows of its frames and of its table.
use Rattle.std.proofs.Common.{◌≡◌, ℕ, List, Some, refl, ap, sym, ◌∙◌, arith}
use Rattle.std.specs.Prelude.{is_some}
use Rattle.std.specs.FinMap as map
use Rattle.std.proofs.lemmas.List.Sums.{count_by-le-length}
use Rattle.page_model.specs.Pages.{SlotOf, Unmapped, Private, Shared, page_at, peers}
use Rattle.page_model.proofs.Counts.{hinted-le-private}
use Rattle.machine_frames.specs.FrameMap.{FrameMap}
use Rattle.share_table.specs.TableMaps.{TableMaps, SharedFrame}
use Rattle.merge_core.specs.Pmap.{Pmap, bytes_in, guests_in, frame_of, Known}
use Rattle.merge_core.specs.Shown.{Shown, FramesOfPages, TableOfPages, Sharer}
use Rattle.merge_core.specs.Ties.{Ties, Owner}

module _ (hash : ℕ → List ℕ → ℕ) (entries : ℕ) (pmap : Pmap) (frames : FrameMap) (table : TableMaps) (notes : List Known) (t : Ties hash pmap frames table notes) where
  abbrev shown : Shown
  shown = record { entries = entries; pmap = pmap; frames = frames; table = table }

  same_some : (x y : ℕ) → Some x ≡ Some y → x ≡ y
  same_some x y e = cc

  -- a page that has a frame with another page shares it
  both : (a b salt x y other m : ℕ) (mine theirs : SlotOf ℕ) → page_at pmap a b ≡ Some (salt, mine) → page_at pmap x y ≡ Some (other, theirs) → (x ≡ a → y ≡ b → ⊥) → frame_of mine ≡ Some m → frame_of theirs ≡ Some m → mine ≡ Shared m
  both a b salt x y other m Unmapped theirs at there apart f h = cc
  both a b salt x y other m (Private k hint) theirs at there apart f h =
      let same = t.placed.alone a b salt k hint x y other theirs at there (h ∙ sym f) in absurd (apart same.0 same.1)
  both a b salt x y other m (Shared k) theirs at there apart f h = ap Shared (same_some k m f)

  pub frames_of_pages : FramesOfPages shown
  frames_of_pages = record {
    taken = t.placed.taken;
    owned = t.owned;
    apart = λ a b salt x y other m mine theirs at there apart f h. (
      both a b salt x y other m mine theirs at there apart f h,
      both x y other a b salt m theirs mine there at (λ e i. apart (sym e) (sym i)) h f,
      sym (t.noted.salts x y other theirs m there h) ∙ t.noted.salts a b salt mine m at f,
    );
    joint = λ a b x y salt m n at there same.
        let one = t.shares.listed a b salt m at in
        let two = t.shares.listed x y salt n there in
        ap (λ (f : SharedFrame). f.mpn) (same_entry _ _ (sym one.here ∙ ap (λ (bytes : List ℕ). map.get table.shared (hash salt bytes)) same ∙ two.here));
    count = t.counted.used;
  } where
    same_entry : (x y : SharedFrame) → Some x ≡ Some y → x ≡ y
    same_entry x y e = cc

  listed_count : (a b salt m : ℕ) → page_at pmap a b ≡ Some (salt, Shared m) → map.get table.shared (hash salt (bytes_in frames m)) ≡ Some (record { mpn = m; count = peers salt (bytes_in frames m) (guests_in frames pmap) })
  listed_count a b salt m at =
      let l = t.shares.listed a b salt m at in
      let w = t.shares.well _ _ l.here in
      let salts = t.noted.salts a b salt (Shared m) m at refl in
      l.here ∙ ap (λ (n : ℕ). let f : SharedFrame = record { mpn = m; count = n } in Some f) (w.count ∙ ap (λ (x : ℕ). peers x (bytes_in frames m) (guests_in frames pmap)) salts)

  sharer_is : (code : ℕ) (f : SharedFrame) → map.get table.shared code ≡ Some f → (o : Owner pmap f.mpn) (slot : SlotOf ℕ) → page_at pmap o.guest o.ppn ≡ Some (o.salt, slot) → frame_of slot ≡ Some f.mpn → Sharer hash shown code f.mpn
  sharer_is code f there o Unmapped at e = cc
  sharer_is code f there o (Private k h) at e = absurd (t.shares.apart o.guest o.ppn o.salt k h code f at there (sym (same_some k f.mpn e)))
  sharer_is code f there o (Shared k) at e =
      let is : k ≡ f.mpn = same_some k f.mpn e in
      let here : page_at pmap o.guest o.ppn ≡ Some (o.salt, Shared f.mpn) = at ∙ ap (λ (x : ℕ). let p : ℕ × SlotOf ℕ = (o.salt, Shared x) in Some p) is in
      let w = t.shares.well code f there in
      record { guest = o.guest; ppn = o.ppn; salt = o.salt; at = here; code_is = ap (λ (x : ℕ). hash x (bytes_in frames f.mpn)) (sym (t.noted.salts o.guest o.ppn o.salt (Shared f.mpn) f.mpn here refl)) ∙ w.code_is }

  shared_by : (code : ℕ) (f : SharedFrame) → map.get table.shared code ≡ Some f → Sharer hash shown code f.mpn
  shared_by code f there =
      let w = t.shares.well code f there in
      let o = t.owned f.mpn w.taken in
      sharer_is code f there o o.slot o.at o.frame

  pub table_of_pages : TableOfPages hash shown
  table_of_pages = record {
    shared = listed_count;
    sharers = shared_by;
    hints = t.hinted.there;
    hinters = λ key h there. let w = t.hinted.well key h there in record { salt = w.salt; at = w.here };
    room = omega (arith, t.counted.shared, t.counted.hints, hinted-le-private (guests_in frames pmap));
    within = omega (arith, t.counted.used, count_by-le-length is_some frames);
  }
