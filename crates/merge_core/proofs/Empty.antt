-- A core with no page mapped.
use Rattle.std.proofs.Common.{◌≡◌, ℕ, zero, suc, ◌≤◌, Bool, false, cond, List, [], ◌∷◌, length, replicate, map, sum, Option, Some, None, IsSome, is_some, refl, ap, sym, subst, ◌∙◌, arith}
use Rattle.std.specs.Prelude.{slice_get, count_by, sum_by}
use Rattle.std.specs.Option.{option_map}
use Rattle.std.specs.Ordering.{nat_cmp}
use Rattle.std.specs.FinMap as maps
use Rattle.std.proofs.lemmas.Bool.{false≢true}
use Rattle.std.proofs.lemmas.List.{length-replicate, nil_from_length}
use Rattle.std.proofs.lemmas.List.Folds.{sum_by-replicate}
use Rattle.std.proofs.lemmas.List.Sums.{sum_by-cons}
use Rattle.page_model.specs.Limits.{shapes}
use Rattle.page_model.specs.Pages.{SlotOf, Slot, Unmapped, Private, Shared, GuestOf, Guest, page_at, count_pages, distinct_in, distinct, is_private, is_shared, is_hinted}
use Rattle.page_model.specs.Replay.{Shape, empty_guest}
use Rattle.page_model.proofs.Places.{same_page}
use Rattle.machine_frames.specs.FrameMap.{FrameMap, frame, IsTaken, no_frames}
use Rattle.machine_frames.specs.FrameMap as fm
use Rattle.share_table.specs.TableMaps.{SharedFrame, empty_table, references}
use Rattle.share_table.specs.declared.entries.HintFrame.{HintFrame}
use Rattle.merge_core.specs.Pmap.{slot_in, guests_in, frame_of, Known, unknown, unmapped_guest, empty_pmap}
use Rattle.merge_core.specs.Ties.{Ties, Few, Counted, page_total}
use Rattle.merge_core.proofs.Repeated.{map_equal}

-- each page is unmapped
empty_slots : (salt n b s : ℕ) (slot : SlotOf ℕ) → option_map {U = ℕ × SlotOf ℕ} (λ slot. (salt, slot)) (slice_get (replicate n Unmapped) b) ≡ Some (s, slot) → slot ≡ Unmapped
empty_slots salt zero b s slot h = cc
empty_slots salt (suc n) zero s slot h =
    let o : Option (ℕ × SlotOf ℕ) = Some (salt, Unmapped) in
    sym ((same_page o salt s Unmapped slot refl h).1)
empty_slots salt (suc n) (suc b) s slot h = empty_slots salt n b s slot h

pub empty_page : (gs : List Shape) (a b s : ℕ) (slot : SlotOf ℕ) → page_at (empty_pmap gs) a b ≡ Some (s, slot) → slot ≡ Unmapped
empty_page [] a b s slot h = cc
empty_page (g ∷ gs) zero b s slot h = empty_slots g.salt g.pages b s slot h
empty_page (g ∷ gs) (suc a) b s slot h = empty_page gs a b s slot h

slots_stay : (frames : FrameMap) (n : ℕ) → map (slot_in frames) (replicate n Unmapped) ≡ replicate n Unmapped
slots_stay frames n = map_equal (slot_in frames) n Unmapped

-- the model's guests are those of a new machine
pub empty_guests : (frames : FrameMap) (gs : List Shape) → guests_in frames (empty_pmap gs) ≡ map empty_guest gs
empty_guests frames [] = refl
empty_guests frames (g ∷ gs) =
    ap (λ (slots : List Slot). let g' : Guest = record { salt = g.salt; slots = slots } in g' ∷ guests_in frames (empty_pmap gs)) (slots_stay frames g.pages)
    ∙ ap (λ (xs : List Guest). empty_guest g ∷ xs) (empty_guests frames gs)

none_passing : (p : Slot → Bool) (n : ℕ) → p Unmapped ≡ false → count_by p (replicate n Unmapped) ≡ 0
none_passing p n h = sum_by-replicate (λ (x : Slot). cond (p x) 1 0) n Unmapped ∙ rw h (omega arith)

pub none_counted : (p : ℕ → Slot → Bool) (gs : List Shape) → ((salt : ℕ) → p salt Unmapped ≡ false) → count_pages p (map empty_guest gs) ≡ 0
none_counted p [] h = refl
none_counted p (g ∷ gs) h = omega (arith, sum_by-cons (λ (x : Guest). count_by (p x.salt) x.slots) (empty_guest g) (map empty_guest gs), none_passing (p g.salt) g.pages (h g.salt), none_counted p gs h)

none_in : (salt n : ℕ) (later : List Guest) → distinct_in salt (replicate n Unmapped) later ≡ 0
none_in salt zero later = refl
none_in salt (suc n) later = none_in salt n later

pub none_distinct : (gs : List Shape) → distinct (map empty_guest gs) ≡ 0
none_distinct [] = refl
none_distinct (g ∷ gs) = omega (arith, none_in g.salt g.pages (map empty_guest gs), none_distinct gs)

all_free : (n m : ℕ) → frame (replicate n None) m ≡ None
all_free zero m = refl
all_free (suc n) zero = refl
all_free (suc n) (suc m) = all_free n m

none_used : (n : ℕ) → fm.used (no_frames n) ≡ 0
none_used n = sum_by-replicate (λ (o : Option (List ℕ)). cond (is_some o) 1 0) n None ∙ omega arith

-- the numbers of guests and pages
pub empty_len : (salts pages : List ℕ) → length salts ≡ length pages → length (empty_pmap (shapes salts pages)) ≡ length pages
empty_len [] [] e = refl
empty_len [] (n ∷ pages) e = absurd (omega arith)
empty_len (s ∷ salts) [] e = absurd (omega arith)
empty_len (s ∷ salts) (n ∷ pages) e = omega (arith, empty_len salts pages (omega arith))

empty_total : (salts pages : List ℕ) → length salts ≡ length pages → page_total (empty_pmap (shapes salts pages)) ≡ sum pages
empty_total [] [] e = refl
empty_total [] (n ∷ pages) e = absurd (omega arith)
empty_total (s ∷ salts) [] e = absurd (omega arith)
empty_total (s ∷ salts) (n ∷ pages) e =
    let shape : Shape = record { salt = s; pages = n } in
    omega (arith, sum_by-cons (λ (y : GuestOf ℕ). length y.slots) (unmapped_guest shape) (empty_pmap (shapes salts pages)), sum_by-cons (λ (x : ℕ). x) n pages, empty_total salts pages (omega arith), length-replicate {A = SlotOf ℕ} n Unmapped)

pub empty_few : (salts pages : List ℕ) → length salts ≡ length pages → length pages ≤ 64 → sum pages ≤ 1048576 → Few (empty_pmap (shapes salts pages))
empty_few salts pages same guests few = record { guests = omega (arith, empty_len salts pages same, guests); pages = omega (arith, empty_total salts pages same, few) }

module _ (hash : ℕ → List ℕ → ℕ) (total : ℕ) (gs : List Shape) where
  not_taken : (m : ℕ) → IsTaken (no_frames total) m → ⊥
  not_taken m taken = false≢true (let P : Option (List ℕ) → Type 0 = λ o. IsSome o in subst P (all_free total m) taken)

  none_some : (k : ℕ) → None ≡ Some k → ⊥
  none_some k e = cc

  no_frame : (a b s : ℕ) (slot : SlotOf ℕ) (m : ℕ) → page_at (empty_pmap gs) a b ≡ Some (s, slot) → frame_of slot ≡ Some m → ⊥
  no_frame a b s slot m at f = none_some m (sym (ap frame_of (empty_page gs a b s slot at)) ∙ f)

  no_shared : (code : ℕ) (f : SharedFrame) → maps.get (maps.empty {K = ℕ} {X = SharedFrame} {R = nat_cmp}) code ≡ Some f → ⊥
  no_shared code f there = no (sym (maps.get-empty nat_cmp code) ∙ there) where
    no : None ≡ Some f → ⊥
    no e = cc

  no_hint : (key : ℕ) (h : HintFrame) → maps.get (maps.empty {K = ℕ} {X = HintFrame} {R = nat_cmp}) key ≡ Some h → ⊥
  no_hint key h there = no (sym (maps.get-empty nat_cmp key) ∙ there) where
    no : None ≡ Some h → ⊥
    no e = cc

  none_referred : references (empty_table total) ≡ 0
  none_referred = ap (sum_by (λ (e : ℕ × SharedFrame). e.1.count)) (nil_from_length (maps.entries (maps.empty {K = ℕ} {X = SharedFrame} {R = nat_cmp})) (sym (maps.len-entries (maps.empty {K = ℕ} {X = SharedFrame} {R = nat_cmp})) ∙ maps.len-empty nat_cmp SharedFrame))

  empty_counted : Counted (guests_in (no_frames total) (empty_pmap gs)) (no_frames total) (empty_table total)
  empty_counted = rw (empty_guests (no_frames total) gs) (record {
    capacity = sym (length-replicate total None);
    used = omega (arith, none_used total, none_counted (λ _. is_private) gs (λ s. refl), none_distinct gs);
    shared = omega (arith, maps.len-empty nat_cmp SharedFrame, none_distinct gs);
    hints = omega (arith, maps.len-empty nat_cmp HintFrame, none_counted (λ _. is_hinted) gs (λ s. refl));
    references = omega (arith, none_referred, none_counted (λ _. is_shared) gs (λ s. refl));
  })

  pub empty_ties : Ties hash (empty_pmap gs) (no_frames total) (empty_table total) (replicate total unknown)
  empty_ties = record {
    placed = record {
      taken = λ a b s slot m at f. absurd (no_frame a b s slot m at f);
      alone = λ a b s m h c d o slot at there f. absurd (no_frame a b s (Private m h) m at refl);
    };
    noted = record {
      len = omega (arith, length-replicate {A = Known} total unknown, length-replicate {A = Option (List ℕ)} total None);
      salts = λ a b s slot m at f. absurd (no_frame a b s slot m at f);
      hashes = λ m code taken is. absurd (not_taken m taken);
    };
    shares = record {
      listed = λ a b s m at. absurd (no_frame a b s (Shared m) m at refl);
      well = λ code f there. absurd (no_shared code f there);
      apart = λ a b s m h code f at there e. absurd (no_frame a b s (Private m h) m at refl);
    };
    hinted = record {
      there = λ a b s m key at. absurd (no_frame a b s (Private m (Some key)) m at refl);
      well = λ key h there. absurd (no_hint key h there);
    };
    counted = empty_counted;
    owned = λ m taken. absurd (not_taken m taken);
  }
