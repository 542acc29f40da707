-- What hangs together stays so where a page becomes shared, or stops to be.
use Rattle.std.proofs.Common.{◌≡◌, ℕ, ◌+◌, ◌≤◌, Bool, false, List, Some, None, refl, ap, sym, ◌∙◌, subst, inl, inr, arith}
use Rattle.std.specs.Prelude.{◌==◌}
use Rattle.std.specs.FinMap as map
use Rattle.std.proofs.lemmas.Bool.Decides.{nat_tests}
use Rattle.page_model.specs.Pages.{Unmapped, Private, Shared, Guest, page_at, with_slot, is_shared_as, any_page, peers}
use Rattle.page_model.proofs.Places.{unchanged, at_other, same_page}
use Rattle.page_model.proofs.Used.{pages_counted, cleared, once}
use Rattle.page_model.proofs.Anys.{any_is_count, AnyIsCount}
use Rattle.machine_frames.specs.FrameMap.{FrameMap}
use Rattle.share_table.specs.TableMaps.{TableMaps, SharedMap, SharedFrame, shared_at, with_shared, with_count, with_one_less}
use Rattle.share_table.proofs.Maps.{len_new, len_old, len_gone, sum_new, sum_old, sum_gone, got_same, twice_inserted}
use Rattle.merge_core.specs.Pmap.{Pmap, bytes_in, guests_in, frame_of, Known, known_at}
use Rattle.merge_core.specs.Ties.{Counted, Ties, Owner}
use Rattle.merge_core.proofs.Views.{page_in_is}
use Rattle.merge_core.proofs.Numbers.{shift, hinted_calm}
use Rattle.merge_core.proofs.Remaps.{re_guests}
use Rattle.merge_core.proofs.Owners.{same_owned, more_owned, re_owned, sharer}
use Rattle.merge_core.proofs.Pairing.{no_peers, first_placed, first_noted, first_shares}
use Rattle.merge_core.proofs.Sharing.{own_content, joined_placed, joined_noted, joined_shares, joined_count, left_placed, left_noted, left_shares, left_count, kept_placed, kept_noted, kept_shares}

rest_of : (t : Bool) (n : ℕ) → AnyIsCount t n → 1 ≤ n → once t ≡ 0
rest_of t n (inl h) some = ap once h.0
rest_of t n (inr h) some = absurd (no n h.1 some) where
  no : (k : ℕ) → k ≡ 0 → 1 ≤ k → ⊥
  no k e l = omega arith

none_of : (t : Bool) (n : ℕ) → AnyIsCount t n → n ≡ 0 → once t ≡ 1
none_of t n (inl h) none = absurd (no n none h.1) where
  no : (k : ℕ) → k ≡ 0 → 1 ≤ k → ⊥
  no k e l = omega arith
none_of t n (inr h) none = ap once h.0

-- a content that others have needs no frame more; one that none has needs one
pub rest_some : (salt : ℕ) (bytes : List ℕ) (gs : List Guest) → 1 ≤ peers salt bytes gs → once (any_page (is_shared_as salt bytes) gs) ≡ 0
rest_some salt bytes gs h = rest_of _ _ (any_is_count (is_shared_as salt bytes) gs) h

pub rest_none : (salt : ℕ) (bytes : List ℕ) (gs : List Guest) → peers salt bytes gs ≡ 0 → once (any_page (is_shared_as salt bytes) gs) ≡ 1
rest_none salt bytes gs h = none_of _ _ (any_is_count (is_shared_as salt bytes) gs) h

abbrev without_shared : TableMaps → ℕ → TableMaps
without_shared t code = record t { shared = map.remove t.shared code }

pub with_count_is : (t : TableMaps) (code m n k : ℕ) → shared_at t code ≡ Some (record { mpn = m; count = n }) → with_count t code k ≡ with_shared t code m k
with_count_is t code m n k h = rw h refl

not_one : (n : ℕ) → 1 ≤ n → (n + 1 == 1) ≡ false
not_one n h = grind (arith, nat_tests)

pub one_less_is : (t : TableMaps) (code m n : ℕ) → shared_at t code ≡ Some (record { mpn = m; count = n + 1 }) → 1 ≤ n → with_one_less t code ≡ with_shared t code m n
one_less_is t code m n h some = rw (h, not_one n some) (ap (λ (k : ℕ). with_shared t code m k) (omega arith))

pub last_less_is : (t : TableMaps) (code m : ℕ) → shared_at t code ≡ Some (record { mpn = m; count = 1 }) → with_one_less t code ≡ without_shared t code
last_less_is t code m h = rw h refl

-- an unmapped page joins
module _ (hash : ℕ → List ℕ → ℕ) (pmap : Pmap) (frames : FrameMap) (table : TableMaps) (notes : List Known) (a b salt m code n : ℕ)
    (t : Ties hash pmap frames table notes) (at : page_at pmap a b ≡ Some (salt, Unmapped))
    (found : shared_at table code ≡ Some (record { mpn = m; count = n })) (salt_is : (known_at notes m).salt ≡ salt) where
  pub joined_guests : guests_in frames (with_slot pmap a b (Shared m)) ≡ with_slot (guests_in frames pmap) a b (Shared (bytes_in frames m))
  joined_guests = re_guests pmap frames a b salt Unmapped (Shared m) at

  joined_before : n ≡ peers salt (bytes_in frames m) (guests_in frames pmap)
  joined_before = rw salt_is at (t.shares.well code _ found).count

  pub joined_peers : n + 1 ≡ peers salt (bytes_in frames m) (guests_in frames (with_slot pmap a b (Shared m)))
  joined_peers = joined_count hash pmap frames notes table.shared a b salt m code n at t.placed t.noted t.shares found salt_is

  joined_rest : once (any_page (is_shared_as salt (bytes_in frames m)) (cleared (guests_in frames pmap) a b)) ≡ 0
  joined_rest =
      let some = (t.shares.well code _ found).some in
      rw (unchanged (guests_in frames pmap) a b salt Unmapped (page_in_is frames pmap a b salt Unmapped at)) (rest_some salt (bytes_in frames m) (guests_in frames pmap) (omega (arith, joined_before, some)))

  joined_counted : Counted (guests_in frames (with_slot pmap a b (Shared m))) frames (with_shared table code m (n + 1))
  joined_counted =
      let s = shift (guests_in frames pmap) a b salt Unmapped (Shared (bytes_in frames m)) (page_in_is frames pmap a b salt Unmapped at) in
      let c = t.counted in
      let l = len_old table.shared code (record { mpn = m; count = n + 1 }) (record { mpn = m; count = n }) found in
      let r = sum_old (λ (e : ℕ × SharedFrame). e.1.count) table.shared code (record { mpn = m; count = n + 1 }) (record { mpn = m; count = n }) found in
      rw joined_guests (record {
        capacity = c.capacity;
        used = omega (arith, c.used, s.used, joined_rest);
        shared = omega (arith, c.shared, s.distinct, joined_rest, l);
        hints = omega (arith, c.hints, s.hints);
        references = omega (arith, c.references, s.shared, r);
      })

  pub joined_ties : Ties hash (with_slot pmap a b (Shared m)) frames (with_shared table code m (n + 1)) notes
  joined_ties = record {
    placed = joined_placed hash pmap frames notes table.shared a b salt m code n at t.placed t.noted t.shares found salt_is;
    noted = joined_noted hash pmap frames notes table.shared a b salt m code n at t.placed t.noted t.shares found salt_is;
    shares = joined_shares hash pmap frames notes table.shared a b salt m code n at t.placed t.noted t.shares found salt_is;
    hinted = hinted_calm pmap table.hints a b salt Unmapped (Shared m) at refl refl t.hinted;
    counted = joined_counted;
    owned = more_owned pmap frames a b salt Unmapped (Shared m) at refl t.owned;
  }

-- a shared page, not the last of its content, is unmapped
module _ (hash : ℕ → List ℕ → ℕ) (pmap : Pmap) (frames : FrameMap) (table : TableMaps) (notes : List Known) (a b salt m code n : ℕ)
    (t : Ties hash pmap frames table notes) (at : page_at pmap a b ≡ Some (salt, Shared m))
    (found : shared_at table code ≡ Some (record { mpn = m; count = n + 1 })) (some : 1 ≤ n) where
  pub left_guests : guests_in frames (with_slot pmap a b Unmapped) ≡ with_slot (guests_in frames pmap) a b Unmapped
  left_guests = re_guests pmap frames a b salt (Shared m) Unmapped at

  left_rest : once (any_page (is_shared_as salt (bytes_in frames m)) (cleared (guests_in frames pmap) a b)) ≡ 0
  left_rest =
      let e : n ≡ peers salt (bytes_in frames m) (cleared (guests_in frames pmap) a b) = left_count hash pmap frames notes table.shared a b salt m code n at t.placed t.noted t.shares found some ∙ ap (peers salt (bytes_in frames m)) left_guests in
      rest_some salt (bytes_in frames m) (cleared (guests_in frames pmap) a b) (omega (arith, e, some))

  left_counted : Counted (guests_in frames (with_slot pmap a b Unmapped)) frames (with_shared table code m n)
  left_counted =
      let s = shift (guests_in frames pmap) a b salt (Shared (bytes_in frames m)) Unmapped (page_in_is frames pmap a b salt (Shared m) at) in
      let c = t.counted in
      let l = len_old table.shared code (record { mpn = m; count = n }) (record { mpn = m; count = n + 1 }) found in
      let r = sum_old (λ (e : ℕ × SharedFrame). e.1.count) table.shared code (record { mpn = m; count = n }) (record { mpn = m; count = n + 1 }) found in
      rw left_guests (record {
        capacity = c.capacity;
        used = omega (arith, c.used, s.used, left_rest);
        shared = omega (arith, c.shared, s.distinct, left_rest, l);
        hints = omega (arith, c.hints, s.hints);
        references = omega (arith, c.references, s.shared, r);
      })

  left_code : hash salt (bytes_in frames m) ≡ code
  left_code =
      let w = t.shares.well code _ found in
      ap (λ (x : ℕ). hash x (bytes_in frames m)) (sym (t.noted.salts a b salt (Shared m) m at refl)) ∙ w.code_is

  -- the pages that stay have the frame
  left_owned : (k : ℕ) → frame_of (Shared m) ≡ Some k → Owner (with_slot pmap a b Unmapped) k
  left_owned k f =
      let same : m ≡ k = is f in
      let e = left_count hash pmap frames notes table.shared a b salt m code n at t.placed t.noted t.shares found some in
      subst (Owner (with_slot pmap a b Unmapped)) same
      (sharer hash (with_slot pmap a b Unmapped) frames notes (map.insert table.shared code (record { mpn = m; count = n })) salt m
      code n (bytes_in frames m)
      (left_shares hash pmap frames notes table.shared a b salt m code n at t.placed t.noted t.shares found some)
      (got_same table.shared code (record { mpn = m; count = n })) left_code (omega (arith, e, some))) where
        is : Some m ≡ Some k → m ≡ k
        is e = cc

  pub left_ties : Ties hash (with_slot pmap a b Unmapped) frames (with_shared table code m n) notes
  left_ties = record {
    placed = left_placed hash pmap frames notes table.shared a b salt m code n at t.placed t.noted t.shares found some;
    noted = left_noted hash pmap frames notes table.shared a b salt m code n at t.placed t.noted t.shares found some;
    shares = left_shares hash pmap frames notes table.shared a b salt m code n at t.placed t.noted t.shares found some;
    hinted = hinted_calm pmap table.hints a b salt (Shared m) Unmapped at refl refl t.hinted;
    counted = left_counted;
    owned = re_owned pmap frames a b salt (Shared m) Unmapped at left_owned t.owned;
  }

-- the last shared page of its content becomes private
module _ (hash : ℕ → List ℕ → ℕ) (pmap : Pmap) (frames : FrameMap) (table : TableMaps) (notes : List Known) (a b salt m code : ℕ) (t : Ties hash pmap frames table notes) (at : page_at pmap a b ≡ Some (salt, Shared m)) (found : shared_at table code ≡ Some (record { mpn = m; count = 1 })) where
  pub kept_guests : guests_in frames (with_slot pmap a b (Private m None)) ≡ with_slot (guests_in frames pmap) a b (Private (bytes_in frames m) None)
  kept_guests = re_guests pmap frames a b salt (Shared m) (Private m None) at

  kept_before : 1 ≡ peers salt (bytes_in frames m) (guests_in frames pmap)
  kept_before = rw (t.noted.salts a b salt (Shared m) m at refl) at (t.shares.well code _ found).count

  kept_rest : once (any_page (is_shared_as salt (bytes_in frames m)) (cleared (guests_in frames pmap) a b)) ≡ 1
  kept_rest =
      let e = rw (own_content salt (bytes_in frames m)) at (pages_counted (is_shared_as salt (bytes_in frames m)) (guests_in frames pmap) a b salt (Shared (bytes_in frames m)) Unmapped (page_in_is frames pmap a b salt (Shared m) at)) in
      rest_none salt (bytes_in frames m) (cleared (guests_in frames pmap) a b) (omega (arith, e, kept_before))

  kept_counted : Counted (guests_in frames (with_slot pmap a b (Private m None))) frames (without_shared table code)
  kept_counted =
      let s = shift (guests_in frames pmap) a b salt (Shared (bytes_in frames m)) (Private (bytes_in frames m) None) (page_in_is frames pmap a b salt (Shared m) at) in
      let c = t.counted in
      let l = len_gone table.shared code (record { mpn = m; count = 1 }) found in
      let r = sum_gone (λ (e : ℕ × SharedFrame). e.1.count) table.shared code (record { mpn = m; count = 1 }) found in
      rw kept_guests (record {
        capacity = c.capacity;
        used = omega (arith, c.used, s.used, kept_rest);
        shared = omega (arith, c.shared, s.distinct, kept_rest, l);
        hints = omega (arith, c.hints, s.hints);
        references = omega (arith, c.references, s.shared, r);
      })

  pub kept_ties : Ties hash (with_slot pmap a b (Private m None)) frames (without_shared table code) notes
  kept_ties = record {
    placed = kept_placed hash pmap frames notes table.shared a b salt m code at t.placed t.noted t.shares found;
    noted = kept_noted hash pmap frames notes table.shared a b salt m code at t.placed t.noted t.shares found;
    shares = kept_shares hash pmap frames notes table.shared a b salt m code at t.placed t.noted t.shares found;
    hinted = hinted_calm pmap table.hints a b salt (Shared m) (Private m None) at refl refl t.hinted;
    counted = kept_counted;
    owned = same_owned pmap frames a b salt (Shared m) (Private m None) at refl t.owned;
  }

-- a private page becomes the first shared page of its content
module _ (hash : ℕ → List ℕ → ℕ) (pmap : Pmap) (frames : FrameMap) (table : TableMaps) (notes : List Known) (a b salt m code : ℕ)
    (t : Ties hash pmap frames table notes) (at : page_at pmap a b ≡ Some (salt, Private m None)) (absent : shared_at table code ≡ None)
    (code_is : hash salt (bytes_in frames m) ≡ code) where
  pub first_guests : guests_in frames (with_slot pmap a b (Shared m)) ≡ with_slot (guests_in frames pmap) a b (Shared (bytes_in frames m))
  first_guests = re_guests pmap frames a b salt (Private m None) (Shared m) at

  first_rest : once (any_page (is_shared_as salt (bytes_in frames m)) (cleared (guests_in frames pmap) a b)) ≡ 1
  first_rest =
      let e = pages_counted (is_shared_as salt (bytes_in frames m)) (guests_in frames pmap) a b salt (Private (bytes_in frames m) None) Unmapped (page_in_is frames pmap a b salt (Private m None) at) in
      rest_none salt (bytes_in frames m) (cleared (guests_in frames pmap) a b) (omega (arith, e, no_peers hash pmap frames notes table.shared salt code (bytes_in frames m) t.shares absent code_is))

  first_counted : Counted (guests_in frames (with_slot pmap a b (Shared m))) frames (with_shared table code m 1)
  first_counted =
      let s = shift (guests_in frames pmap) a b salt (Private (bytes_in frames m) None) (Shared (bytes_in frames m)) (page_in_is frames pmap a b salt (Private m None) at) in
      let c = t.counted in
      let l = len_new table.shared code (record { mpn = m; count = 1 }) absent in
      let r = sum_new (λ (e : ℕ × SharedFrame). e.1.count) table.shared code (record { mpn = m; count = 1 }) absent in
      rw first_guests (record {
        capacity = c.capacity;
        used = omega (arith, c.used, s.used, first_rest);
        shared = omega (arith, c.shared, s.distinct, first_rest, l);
        hints = omega (arith, c.hints, s.hints);
        references = omega (arith, c.references, s.shared, r);
      })

  pub first_ties : Ties hash (with_slot pmap a b (Shared m)) frames (with_shared table code m 1) notes
  first_ties = record {
    placed = first_placed hash pmap frames notes table.shared a b salt m code at t.placed t.noted t.shares absent code_is;
    noted = first_noted hash pmap frames notes table.shared a b salt m code at t.placed t.noted t.shares absent code_is;
    shares = first_shares hash pmap frames notes table.shared a b salt m code at t.placed t.noted t.shares absent code_is;
    hinted = hinted_calm pmap table.hints a b salt (Private m None) (Shared m) at refl refl t.hinted;
    counted = first_counted;
    owned = same_owned pmap frames a b salt (Private m None) (Shared m) at refl t.owned;
  }

-- a private page and a page without a frame become the first two shared pages of a content
module _ (hash : ℕ → List ℕ → ℕ) (pmap : Pmap) (frames : FrameMap) (table : TableMaps) (notes : List Known) (a b salt m c d code : ℕ)
    (t : Ties hash pmap frames table notes) (at : page_at pmap a b ≡ Some (salt, Private m None))
    (there : page_at pmap c d ≡ Some (salt, Unmapped)) (absent : shared_at table code ≡ None)
    (code_is : hash salt (bytes_in frames m) ≡ code) where
  no_frame : Private m None ≡ Unmapped → ⊥
  no_frame e = cc

  pair_apart : c ≡ a → d ≡ b → ⊥
  pair_apart e f =
      let moved : page_at pmap a b ≡ Some (salt, Unmapped) = ap (λ (i : ℕ). page_at pmap i b) (sym e) ∙ ap (λ (i : ℕ). page_at pmap c i) (sym f) ∙ there in
      no_frame ((same_page (page_at pmap a b) salt salt (Private m None) Unmapped at moved).1)

  pub still_there : page_at (with_slot pmap a b (Shared m)) c d ≡ Some (salt, Unmapped)
  still_there = at_other pmap a b (Shared m) c d pair_apart ∙ there

  one_ties : Ties hash (with_slot pmap a b (Shared m)) frames (with_shared table code m 1) notes
  one_ties = first_ties hash pmap frames table notes a b salt m code t at absent code_is

  one_found : shared_at (with_shared table code m 1) code ≡ Some (record { mpn = m; count = 1 })
  one_found = got_same table.shared code (record { mpn = m; count = 1 })

  one_salt : (known_at notes m).salt ≡ salt
  one_salt = t.noted.salts a b salt (Private m None) m at refl

  two_ties : Ties hash (with_slot (with_slot pmap a b (Shared m)) c d (Shared m)) frames (with_shared (with_shared table code m 1) code m 2) notes
  two_ties = joined_ties hash (with_slot pmap a b (Shared m)) frames (with_shared table code m 1) notes c d salt m code 1 one_ties still_there one_found one_salt

  two_at_once : with_shared (with_shared table code m 1) code m 2 ≡ with_shared table code m 2
  two_at_once = ap (λ (s : SharedMap). let r : TableMaps = record table { shared = s } in r) (twice_inserted table.shared code (record { mpn = m; count = 1 }) (record { mpn = m; count = 2 }))

  pub paired_ties : Ties hash (with_slot (with_slot pmap a b (Shared m)) c d (Shared m)) frames (with_shared table code m 2) notes
  paired_ties = subst (λ (x : TableMaps). Ties hash (with_slot (with_slot pmap a b (Shared m)) c d (Shared m)) frames x notes) two_at_once two_ties

  pub paired_guests : guests_in frames (with_slot (with_slot pmap a b (Shared m)) c d (Shared m)) ≡ with_slot (with_slot (guests_in frames pmap) a b (Shared (bytes_in frames m))) c d (Shared (bytes_in frames m))
  paired_guests =
      joined_guests hash (with_slot pmap a b (Shared m)) frames (with_shared table code m 1) notes c d salt m code 1 one_ties still_there one_found one_salt
      ∙ ap (λ (gs : List Guest). with_slot gs c d (Shared (bytes_in frames m))) (first_guests hash pmap frames table notes a b salt m code t at absent code_is)
