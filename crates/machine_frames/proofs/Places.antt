-- What each change of the parts of `Frames` makes of its frames.
use Rattle.std.proofs.Common.{◌≡◌, ◌≢◌, ℕ, ◌+◌, ◌<◌, ◌≤◌, ◌==◌, Bool, true, false, cond, List, [], ◌∷◌, ◌++◌, length, Option, None, Some, is_some, IsSome, set, refl, sym, ap, ◌∙◌, subst, ◌⊎◌, inl, inr, zero-add, arith, length-append}
use Rattle.std.specs.Prelude.{slice_get, if◌then◌else◌}
use Rattle.std.specs.Option.{option_map}
use Rattle.std.proofs.lemmas.Bool.{cases_lt, cases_eq, cases_Bool, eq-eqb, eqb-true, false≢true}
use Rattle.std.proofs.lemmas.List.{get_or-set_same, get_or-set_other, length-set, get_or_append_left, length-replicate, get_or-replicate}
use Rattle.std.proofs.Math.Seq.{get_or-append_seam}
use Rattle.std.proofs.lemmas.List.FromFn.{length-map-range_with_len, get_or-map-range_with_len, fill_by_all}
use Rattle.std.proofs.lemmas.List.Sums.{sum_by-cons, count_by-le-length}
use Rattle.std.proofs.lemmas.List.Folds.{sum_by-replicate}
use Rattle.std.proofs.lemmas.List.Sorted.{IsPermutation-sym, length_permutation, sum_by_pushed}
use Rattle.std.proofs.HeapSift.{at_most}
use Rattle.std.specs.BinaryHeap.{IsHeap, IsUpperBound}
use Rattle.std.specs.List.Sorted.{IsPermutation}
use Rattle.std.proofs.lemmas.Option.{slice_get-get_or, slice_get_past}
use Rattle.page_model.specs.declared.limits.TheConstants.{MAX_FRAMES}
use Rattle.machine_frames.specs.FrameMap.{FrameMap, frame, IsTaken, used, no_frames}
use Rattle.machine_frames.specs.PageLists.{PageList, page_in, with_page, with_more}
use Rattle.machine_frames.specs.Places.{FreeList, times, lowest_first, taken_page, frames_of, IsSound}
use Rattle.machine_frames.proofs.Lists.{map_changed}
use Rattle.machine_frames.proofs.Used.{taken_within, used_taken, used_freed, used_written, used-lt-length}

abbrev Pages : Type 0
Pages = List (List ℕ)

module _ (free : FreeList) (list : PageList) where
  pub length-frames_of : length (frames_of free list) ≡ list.room
  unfolding frames_of
  length-frames_of = length-map-range_with_len (taken_page free list.pages) 0 list.room

  pub frame-frames_of : (mpn : ℕ) → mpn < list.room → frame (frames_of free list) mpn ≡ taken_page free list.pages mpn
  unfolding frames_of
  frame-frames_of mpn h = get_or-map-range_with_len (taken_page free list.pages) 0 list.room mpn mpn None h (zero-add mpn)

-- frames that differ at one place
frames_changed : (free free' : FreeList) (list : PageList) (pages' : Pages) (m : ℕ) (new : Option (List ℕ)) → m < list.room
    → taken_page free' pages' m ≡ new → ((i : ℕ) → i ≢ m → taken_page free' pages' i ≡ taken_page free list.pages i)
    → frames_of free' (record { pages = pages'; room = list.room }) ≡ set (frames_of free list) m new
unfolding frames_of
frames_changed free free' list pages' m new within same others = map_changed None (taken_page free list.pages) (taken_page free' pages') list.room m new within same (λ i x differs. others i differs)

-- a test for zero
at_zero : (n : ℕ) (o : Option (List ℕ)) → n ≡ 0 → (if n == 0 then o else None) ≡ o
at_zero n o e = rw e refl

past_zero : (n : ℕ) (o : Option (List ℕ)) → 1 ≤ n → (if n == 0 then o else None) ≡ None
past_zero n o h = elim (cases_Bool (n == 0)) [
  | inl same ↦ let e : n ≡ 0 = eqb-true n 0 same in absurd (omega arith)
  | inr other ↦ rw other refl
]

module _ (free : FreeList) (pages : Pages) (mpn : ℕ) where
  unlisted_page : times mpn free ≡ 0 → taken_page free pages mpn ≡ slice_get pages mpn
  unlisted_page e = at_zero (times mpn free) (slice_get pages mpn) e

  listed : 1 ≤ times mpn free → taken_page free pages mpn ≡ None
  listed h = past_zero (times mpn free) (slice_get pages mpn) h

-- the same page, where the frame is listed as often
same_page : (free free' : FreeList) (pages pages' : Pages) (i : ℕ) → times i free' ≡ times i free → slice_get pages' i ≡ slice_get pages i → taken_page free' pages' i ≡ taken_page free pages i
same_page free free' pages pages' i t p =
    ap (λ (n : ℕ). if n == 0 then slice_get pages' i else None) t ∙ ap (λ (o : Option (List ℕ)). if times i free == 0 then o else None) p

abbrev one : Bool → ℕ
one b = cond b 1 0

one_if : (m i : ℕ) → m ≡ i → one (m == i) ≡ 1
one_if m i e = rw (eq-eqb m i e) refl

none_if : (m i : ℕ) → (m ≡ i → ⊥) → one (m == i) ≡ 0
none_if m i n = elim (cases_Bool (m == i)) [
  | inl same ↦ absurd (n (eqb-true m i same))
  | inr other ↦ rw other refl
]

-- a list that has one frame more than another, in whatever order
record Joined (free free' : FreeList) (m : ℕ) : Type 0 where
  pub counts : (i : ℕ) → times i free' ≡ times i free + one (m == i)
  pub long : length free' ≡ length free + 1

joined : (free free' : FreeList) (m : ℕ) → IsPermutation (record { 0 = m } ∷ free) free' → Joined free free' m
joined free free' m p =
    record {
      counts = λ i. omega (arith, sum_by_pushed (λ x. one (x.0 == i)) (record { 0 = m }) free free' p);
      long = omega (arith, length_permutation (record { 0 = m } ∷ free) free' p);
    }

module _ (free free' : FreeList) (m : ℕ) (more : Joined free free' m) where
  times_same : times m free' ≡ times m free + 1
  times_same = omega (arith, more.counts m, one_if m m refl)

  times_other : (i : ℕ) → (i ≡ m → ⊥) → times i free' ≡ times i free
  times_other i n = omega (arith, more.counts i, none_if m i (λ e. n (sym e)))

  times_more : (i : ℕ) → times i free ≤ times i free'
  times_more i = omega (arith, more.counts i)

-- what is known of a taken frame
pub record Known (free : FreeList) (list : PageList) (mpn : ℕ) : Type 0 where
  pub within : mpn < list.room
  pub opened : mpn < length list.pages
  pub unlisted : times mpn free ≡ 0
  pub page : frame (frames_of free list) mpn ≡ Some (page_in list mpn)
  -- there is room to list it
  pub room : length free < list.room

pub known : (free : FreeList) (list : PageList) (mpn : ℕ) → IsSound free list → IsTaken (frames_of free list) mpn → Known free list mpn
known free list mpn sound h = pick (cases_lt 0 (times mpn free)) (cases_lt mpn (length list.pages)) where
  within : mpn < list.room
  within = omega (arith, taken_within (frames_of free list) mpn h, length-frames_of free list)

  shown : frame (frames_of free list) mpn ≡ taken_page free list.pages mpn
  shown = frame-frames_of free list mpn within

  empty : taken_page free list.pages mpn ≡ None → ⊥
  empty e = let P : Option (List ℕ) → Type 0 = λ o. IsSome o in false≢true (subst P (shown ∙ e) h)

  pick : ((0 < times mpn free) ⊎ (times mpn free ≤ 0)) → ((mpn < length list.pages) ⊎ (length list.pages ≤ mpn)) → Known free list mpn
  pick (inl l) k = absurd (empty (listed free list.pages mpn (omega arith)))
  pick (inr l) (inr k) = absurd (empty (unlisted_page free list.pages mpn (omega arith) ∙ slice_get_past list.pages mpn k))
  pick (inr l) (inl k) =
      let none : times mpn free ≡ 0 = omega arith in
      record {
        within = within;
        opened = k;
        unlisted = none;
        page = shown ∙ unlisted_page free list.pages mpn none ∙ slice_get-get_or list.pages mpn [] k;
        room = omega (arith, sound.counted, sound.few, used_freed (frames_of free list) mpn h);
      }

-- the frames after a change of one of them
pub record Changed (free : FreeList) (list : PageList) (was : FrameMap) (mpn : ℕ) (new : Option (List ℕ)) : Type 0 where
  pub is : frames_of free list ≡ set was mpn new
  pub sound : IsSound free list

-- a page is put in the place of another
module _ (pages : Pages) (m : ℕ) (page : List ℕ) (opened : m < length pages) where
  page_now : slice_get (set pages m page) m ≡ Some page
  page_now = slice_get-get_or (set pages m page) m [] (omega (arith, length-set pages m page, opened)) ∙ ap (λ (x : List ℕ). Some x) (get_or-set_same pages m page [] opened)

  page_other : (i : ℕ) → (i ≡ m → ⊥) → slice_get (set pages m page) i ≡ slice_get pages i
  page_other i n = pick (cases_lt i (length pages)) where
    pick : ((i < length pages) ⊎ (length pages ≤ i)) → slice_get (set pages m page) i ≡ slice_get pages i
    pick (inl k) = slice_get-get_or (set pages m page) i [] (omega (arith, length-set pages m page, k)) ∙ ap (λ (x : List ℕ). Some x) (get_or-set_other pages m i page [] n) ∙ sym (slice_get-get_or pages i [] k)
    pick (inr k) = slice_get_past (set pages m page) i (omega (arith, length-set pages m page, k)) ∙ sym (slice_get_past pages i k)

-- a taken frame is written
pub rewritten : (free : FreeList) (list : PageList) (m : ℕ) (page : List ℕ) → IsSound free list → IsTaken (frames_of free list) m → Changed free (with_page list m page) (frames_of free list) m (Some page)
rewritten free list m page sound h =
    let k = known free list m sound h in
    let pages' = set list.pages m page in
    let is : frames_of free (with_page list m page) ≡ set (frames_of free list) m (Some page) =
    frames_changed free free list pages' m (Some page) k.within
    (unlisted_page free pages' m k.unlisted ∙ page_now list.pages m page k.opened)
    (λ i n. same_page free free list.pages pages' i refl (page_other list.pages m page k.opened i n)) in
    let same : used (frames_of free (with_page list m page)) ≡ used (frames_of free list) = ap used is ∙ used_written (frames_of free list) m page h in
    record {
      is = is;
      sound = record {
        few = omega (arith, length-set list.pages m page, sound.few);
        most = sound.most;
        heap = sound.heap;
        once = sound.once;
        below = λ i past. sound.below i (omega (arith, length-set list.pages m page, past));
        counted = omega (arith, same, sound.counted, length-set list.pages m page);
      };
    }

-- a taken frame is given back
pub given_back : (free free' : FreeList) (list : PageList) (m : ℕ) → IsSound free list → IsTaken (frames_of free list) m → IsPermutation (record { 0 = m } ∷ free) free' → IsHeap lowest_first free' → Changed free' list (frames_of free list) m None
given_back free free' list m sound h pushed heap =
    let k = known free list m sound h in
    let is : frames_of free' list ≡ set (frames_of free list) m None =
    frames_changed free free' list list.pages m None k.within
    (listed free' list.pages m (omega (arith, times_same free free' m more)))
    (λ i n. same_page free free' list.pages list.pages i (times_other free free' m more i n) refl) in
    let fewer : used (frames_of free' list) + 1 ≡ used (frames_of free list) = ap (λ (frames : FrameMap). used frames + 1) is ∙ used_freed (frames_of free list) m h in
    record {
      is = is;
      sound = record {
        few = sound.few;
        most = sound.most;
        heap = heap;
        once = λ i. pick_once k.unlisted i (cases_eq i m);
        below = λ i past. pick_below k.opened i past (cases_eq i m);
        counted = omega (arith, fewer, sound.counted, more.long);
      };
    } where
      more : Joined free free' m
      more = joined free free' m pushed

      pick_once : times m free ≡ 0 → (i : ℕ) → ((i ≡ m) ⊎ (i ≡ m → ⊥)) → times i free' ≤ 1
      pick_once none i (inl e) = rw e (omega (arith, times_same free free' m more, none))
      pick_once none i (inr n) = omega (arith, times_other free free' m more i n, sound.once i)

      pick_below : m < length list.pages → (i : ℕ) → length list.pages ≤ i → ((i ≡ m) ⊎ (i ≡ m → ⊥)) → times i free' ≡ 0
      pick_below opened i past (inl e) = absurd (omega arith)
      pick_below opened i past (inr n) = times_other free free' m more i n ∙ sound.below i past

-- a frame that isn't listed, below one that was taken once, is taken
taken_below : (free : FreeList) (list : PageList) (n : ℕ) → IsSound free list → n < length list.pages → times n free ≡ 0 → IsTaken (frames_of free list) n
taken_below free list n sound h none =
    ap is_some (frame-frames_of free list n (omega (arith, h, sound.few)) ∙ unlisted_page free list.pages n none ∙ slice_get-get_or list.pages n [] h)

-- no frame below the first of a heap is listed
unlisted_below : (free : FreeList) (m n : ℕ) → IsUpperBound lowest_first (record { 0 = m }) free → n < m → times n free ≡ 0
unlisted_below [] m n bound h = refl
unlisted_below (x ∷ xs) m n bound h =
    let above : m ≤ x.0 = at_most x.0 m bound.0 in
    omega (arith, sum_by-cons (λ y. one (y.0 == n)) x xs, none_if x.0 n (λ e. omega (arith, above, h, e)), unlisted_below xs m n bound.1 h)

-- the frame that was given back and is first in the heap is taken again
pub record Again (free free' : FreeList) (list : PageList) (m : ℕ) : Type 0 where
  pub within : m < list.room
  pub opened : m < length list.pages
  pub was_free : frame (frames_of free list) m ≡ None
  pub lowest : (n : ℕ) → n < m → IsTaken (frames_of free list) n
  pub after : (page : List ℕ) → Changed free' (with_page list m page) (frames_of free list) m (Some page)

pub again : (free free' : FreeList) (list : PageList) (m : ℕ) → IsSound free list → IsPermutation free (record { 0 = m } ∷ free') → (IsHeap lowest_first free → IsHeap lowest_first free' × IsUpperBound lowest_first (record { 0 = m }) free) → Again free free' list m
again free free' list m sound permuted pops =
    record {
      within = within;
      opened = opened;
      was_free = was_free;
      lowest = λ n h. taken_below free list n sound (omega (arith, h, opened)) (unlisted_below free m n (pops sound.heap).1 h);
      after = λ page. record {
        is = is page;
        sound = record {
          few = omega (arith, length-set list.pages m page, sound.few);
          most = sound.most;
          heap = (pops sound.heap).0;
          once = λ i. omega (arith, times_more free' free m fewer i, sound.once i);
          below = λ i past. omega (arith, times_more free' free m fewer i, sound.below i (omega (arith, length-set list.pages m page, past)));
          counted = omega (arith, more page, sound.counted, fewer.long, length-set list.pages m page);
        };
      };
    } where
      fewer : Joined free' free m
      fewer = joined free' free m (IsPermutation-sym free (record { 0 = m } ∷ free') permuted)

      twice : times m free ≡ times m free' + 1
      twice = times_same free' free m fewer

      unlisted : times m free' ≡ 0
      unlisted = omega (arith, twice, sound.once m)

      opened : m < length list.pages
      opened = pick (cases_lt m (length list.pages)) where
        pick : ((m < length list.pages) ⊎ (length list.pages ≤ m)) → m < length list.pages
        pick (inl h) = h
        pick (inr h) = absurd (omega (arith, twice, sound.below m h))

      within : m < list.room
      within = omega (arith, opened, sound.few)

      was_free : frame (frames_of free list) m ≡ None
      was_free = frame-frames_of free list m within ∙ listed free list.pages m (omega (arith, twice))

      is : (page : List ℕ) → frames_of free' (with_page list m page) ≡ set (frames_of free list) m (Some page)
      is page =
          frames_changed free free' list (set list.pages m page) m (Some page) within
          (unlisted_page free' (set list.pages m page) m unlisted ∙ page_now list.pages m page opened)
          (λ i n. same_page free free' list.pages (set list.pages m page) i (sym (times_other free' free m fewer i n)) (page_other list.pages m page opened i n))

      more : (page : List ℕ) → used (frames_of free' (with_page list m page)) ≡ used (frames_of free list) + 1
      more page = ap used (is page) ∙ used_taken (frames_of free list) m page (omega (arith, within, length-frames_of free list)) was_free

-- a frame is taken for the first time
pub record First (free : FreeList) (list : PageList) (page : List ℕ) : Type 0 where
  pub was_free : frame (frames_of free list) (length list.pages) ≡ None
  pub after : Changed free (with_more list page) (frames_of free list) (length list.pages) (Some page)

pub first : (free : FreeList) (list : PageList) (page : List ℕ) → IsSound free list → length list.pages < list.room → First free list page
first free list page sound below =
    record {
      was_free = was_free;
      after = record {
        is = is;
        sound = record {
          few = omega (arith, long, below);
          most = sound.most;
          heap = sound.heap;
          once = sound.once;
          below = λ i past. sound.below i (omega (arith, long, past));
          counted = omega (arith, used_more, sound.counted, long);
        };
      };
    } where
      m : ℕ
      m = length list.pages

      pages' : Pages
      pages' = list.pages ++ page ∷ []

      long : length pages' ≡ m + 1
      long = length-append list.pages (page ∷ [])

      unlisted : times m free ≡ 0
      unlisted = sound.below m (omega arith)

      was_free : frame (frames_of free list) m ≡ None
      was_free = frame-frames_of free list m below ∙ unlisted_page free list.pages m unlisted ∙ slice_get_past list.pages m (omega arith)

      page_new : slice_get pages' m ≡ Some page
      page_new = slice_get-get_or pages' m [] (omega (arith, long)) ∙ ap (λ (x : List ℕ). Some x) (get_or-append_seam list.pages page [] [])

      page_old : (i : ℕ) → (i ≡ m → ⊥) → ((i < m) ⊎ (m ≤ i)) → slice_get pages' i ≡ slice_get list.pages i
      page_old i n (inl h) = slice_get-get_or pages' i [] (omega (arith, long)) ∙ ap (λ (x : List ℕ). Some x) (get_or_append_left list.pages (page ∷ []) [] i h) ∙ sym (slice_get-get_or list.pages i [] h)
      page_old i n (inr h) = slice_get_past pages' i (omega (arith, long, n)) ∙ sym (slice_get_past list.pages i h)

      is : frames_of free (with_more list page) ≡ set (frames_of free list) m (Some page)
      is =
          frames_changed free free list pages' m (Some page) below
          (unlisted_page free pages' m unlisted ∙ page_new)
          (λ i n. same_page free free list.pages pages' i refl (page_old i n (cases_lt i m)))

      used_more : used (frames_of free (with_more list page)) ≡ used (frames_of free list) + 1
      used_more = ap used is ∙ used_taken (frames_of free list) m page (omega (arith, below, length-frames_of free list)) was_free

-- the frames of a new machine
pub record Fresh (free : FreeList) (list : PageList) : Type 0 where
  pub is : frames_of free list ≡ no_frames list.room
  pub sound : IsSound free list

all_none : (free : FreeList) (list : PageList) → ((i : ℕ) → taken_page free list.pages i ≡ None) → frames_of free list ≡ no_frames list.room
unfolding frames_of
all_none free list none =
    let nothing : Option (List ℕ) = None in
    sym (fill_by_all (taken_page free list.pages) (no_frames list.room) list.room None (length-replicate list.room nothing) (λ k h. get_or-replicate list.room k nothing nothing h ∙ sym (none k)))

none_used : (total : ℕ) → used (no_frames total) ≡ 0
none_used total = let nothing : Option (List ℕ) = None in omega (arith, sum_by-replicate (λ (o : Option (List ℕ)). one (is_some o)) total nothing)

pub fresh : (free : FreeList) (list : PageList) → free ≡ [] → IsHeap lowest_first free → list.pages ≡ [] → list.room ≤ MAX_FRAMES → Fresh free list
fresh free list f heap p most =
    record {
      is = is;
      sound = record {
        few = omega (arith, no_pages);
        most = most;
        heap = heap;
        once = λ i. omega (arith, unlisted i);
        below = λ i past. unlisted i;
        counted = omega (arith, ap used is ∙ none_used list.room, ap (λ (xs : FreeList). length xs) f, no_pages);
      };
    } where
      no_pages : length list.pages ≡ 0
      no_pages = ap (λ (xs : Pages). length xs) p

      unlisted : (i : ℕ) → times i free ≡ 0
      unlisted i = ap (λ (xs : FreeList). times i xs) f

      is : frames_of free list ≡ no_frames list.room
      is = all_none free list (λ i. unlisted_page free list.pages i (unlisted i) ∙ slice_get_past list.pages i (omega (arith, no_pages)))

-- all frames were taken, and none was given back
pub all_taken : (free : FreeList) (list : PageList) → IsSound free list → length list.pages ≡ list.room → length free ≡ 0 → used (frames_of free list) ≡ length (frames_of free list)
all_taken free list sound p f = omega (arith, sound.counted, length-frames_of free list)

-- some frame is free
pub not_all_taken : (free : FreeList) (list : PageList) (m : ℕ) → m < list.room → frame (frames_of free list) m ≡ None → used (frames_of free list) ≡ length (frames_of free list) → ⊥
not_all_taken free list m within was_free all =
    let less = used-lt-length (frames_of free list) m (omega (arith, within, length-frames_of free list)) was_free in
    omega (arith, less, all)

-- the frames after a write
pub written_at : (free : FreeList) (list : PageList) (m : ℕ) (change : List ℕ → List ℕ) (list' : PageList) → IsSound free list
    → IsTaken (frames_of free list) m → list' ≡ with_page list m (change (page_in list m))
    → Changed free list' (frames_of free list) m (option_map change (frame (frames_of free list) m))
written_at free list m change list' sound h e =
    let k = known free list m sound h in
    let new_is : option_map change (frame (frames_of free list) m) ≡ Some (change (page_in list m)) = ap (λ (o : Option (List ℕ)). option_map change o) k.page in
    rw (e, new_is) (rewritten free list m (change (page_in list m)) sound h)

-- the frames after a frame was taken for the first time
pub record FirstAt (free : FreeList) (list : PageList) (m : ℕ) (free' : FreeList) (list' : PageList) (page : List ℕ) : Type 0 where
  pub within : m < list.room
  pub was_free : frame (frames_of free list) m ≡ None
  pub lowest : (n : ℕ) → n < m → IsTaken (frames_of free list) n
  pub after : Changed free' list' (frames_of free list) m (Some page)

pub first_at : (free : FreeList) (list : PageList) (m : ℕ) (free' : FreeList) (list' : PageList) (page : List ℕ) → IsSound free list → m ≡ length list.pages → length list.pages < list.room → length free ≡ 0 → free' ≡ free → list' ≡ with_more list page → FirstAt free list m free' list' page
first_at free list m free' list' page sound is_len below none frees e =
    let made = first free list page sound below in
    record {
      within = omega (arith, below, is_len);
      was_free = rw is_len made.was_free;
      lowest = λ n h. taken_below free list n sound (omega (arith, h, is_len)) (omega (arith, count_by-le-length (λ x. x.0 == n) free, none));
      after = rw (is_len, frees, e) made.after;
    }

-- whether there can be no more pages
pub is_full : (a b : ℕ) → true ≡ (a == b) → a ≡ b
is_full a b e = eqb-true a b (sym e)

pub is_below : (a b : ℕ) → a ≤ b → false ≡ (a == b) → a < b
is_below a b h e = pick (cases_eq a b) where
  pick : ((a ≡ b) ⊎ (a ≡ b → ⊥)) → a < b
  pick (inl same) = absurd (false≢true (e ∙ eq-eqb a b same))
  pick (inr differs) = omega arith
