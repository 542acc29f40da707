-- The pages that segments have, and what the list of a process's pages says of them.
use Rattle.std.proofs.Common.{◌≡◌, ℕ, zero, suc, ◌+◌, ◌*◌, ◌/◌, ◌%◌, ◌<◌, ◌≤◌, Bool, cond, List, [], ◌∷◌, ◌++◌, length, map, set, get_or, take, drop, refl, sym, ap, ◌∙◌, arith, append_assoc, append-nil}
use Rattle.std.specs.Prelude.{filter}
use Rattle.std.specs.List.{range_with_len}
use Rattle.std.proofs.lemmas.List.{get_or-take, get_or-drop}
use Rattle.std.proofs.lemmas.List.Concat.{flat_map-append}
use Rattle.std.proofs.lemmas.List.FromFn.{map-range_with_len_more, filter_of_map_range_with_len_more, length-map-range_with_len}
use Rattle.std.proofs.lemmas.List.Elements.{filter-append}
use Rattle.memory_images.specs.Pages.{page_count}
use Rattle.memory_images.specs.declared.segment.Segment.{Segment}
use Rattle.live_memory.specs.PageMaps.{is_in, is_page_in, numbers, numbers_in, pages_from, pages_in}
use Rattle.live_memory.specs.Ranges.{AreWhole, IsWhole}
use Rattle.live_memory.specs.declared.pagemap.PageState.{PageState}

-- a segment with one page more
pub one_more : (offset len page : ℕ) → offset % 4096 ≡ 0 → len % 4096 ≡ 0 → offset + len ≡ page * 4096
    → pages_in record { offset = offset; len = len + 4096 } ≡ pages_in record { offset = offset; len = len } ++ page ∷ []
unfolding page_count
one_more offset len page o l e =
    let count : ℕ = (len + 4095) / 4096 in
    let more : (len + 4096 + 4095) / 4096 ≡ count + 1 = omega (arith, l) in
    let last : offset / 4096 + count ≡ page = omega (arith, o, l, e) in
    ap (λ (n : ℕ). pages_from (offset / 4096) n) more ∙ map-range_with_len_more (λ k. offset / 4096 + k) 0 count count (omega arith) ∙ ap (λ (p : ℕ). pages_from (offset / 4096) count ++ p ∷ []) last

-- a segment of one page
pub one_page : (page : ℕ) → pages_in record { offset = page * 4096; len = 4096 } ≡ page ∷ []
unfolding page_count
one_page page =
    let same : page * 4096 / 4096 + 0 ≡ page = omega arith in
    ap (λ (p : ℕ). p ∷ []) same

-- the last segment has one page more
pub last_more : (xs : List Segment) (i : ℕ) (s d : Segment) (page : ℕ) → i + 1 ≡ length xs → pages_in s ≡ pages_in (get_or xs i d) ++ page ∷ [] → numbers (set xs i s) ≡ numbers xs ++ page ∷ []
last_more [] i s d page e h = absurd (omega (arith, e))
last_more (x ∷ []) zero s d page e h = ap (λ (xs : List ℕ). xs ++ []) h ∙ append-nil (pages_in x ++ page ∷ []) ∙ ap (λ (xs : List ℕ). xs ++ page ∷ []) (sym (append-nil (pages_in x)))
last_more (x ∷ []) (suc i) s d page e h = absurd (omega (arith, e))
last_more (x ∷ y ∷ ys) zero s d page e h = absurd (omega (arith, e))
last_more (x ∷ y ∷ ys) (suc i) s d page e h =
    ap (λ (xs : List ℕ). pages_in x ++ xs) (last_more (y ∷ ys) i s d page (omega (arith, e)) h) ∙ sym (append_assoc (pages_in x) (numbers (y ∷ ys)) (page ∷ []))

pub last_on : (items : List Segment) (i : ℕ) (last d : Segment) (page : ℕ) → 0 < length items → i + 1 ≡ length items → last ≡ get_or items i d → AreWhole items
    → last.offset + last.len ≡ page * 4096 → numbers (set items i record { offset = last.offset; len = last.len + 4096 }) ≡ numbers items ++ page ∷ []
last_on items i last d page some e is whole sum =
    let here : IsWhole (get_or items i d) = whole i d (omega (arith, e)) in
    let mine : IsWhole last = rw is here in
    last_more items i _ d page e (one_more last.offset last.len page mine.0 mine.1 sum ∙ ap (λ (s : Segment). pages_in s ++ page ∷ []) is)

-- a segment that is put where it was
pub put_back : (xs : List Segment) (i : ℕ) (x d : Segment) → i < length xs → x ≡ get_or xs i d → set xs i x ≡ xs
put_back [] i x d h e = absurd (omega (arith, h))
put_back (y ∷ ys) zero x d h e = ap (λ (z : Segment). z ∷ ys) e
put_back (y ∷ ys) (suc i) x d h e = ap (λ (zs : List Segment). y ∷ zs) (put_back ys i x d (omega (arith, h)) e)

-- a segment more
pub segment_more : (xs ys : List Segment) (s : Segment) (pages : List ℕ) → ys ≡ xs ++ s ∷ [] → pages_in s ≡ pages → numbers ys ≡ numbers xs ++ pages
segment_more xs ys s pages e h = ap numbers e ∙ flat_map-append pages_in xs (s ∷ []) ∙ ap (λ (zs : List ℕ). numbers xs ++ zs) (append-nil (pages_in s) ∙ h)

-- the highest byte of what is known of a page
entry_read : (bytes into : List ℕ) (first i n : ℕ) → into ≡ take n (drop (first * 8) bytes) → 8 * i + 7 < n → get_or into (8 * i + 7) 0 ≡ get_or bytes (8 * (first + i) + 7) 0
entry_read bytes into first i n e h =
    let at : first * 8 + (8 * i + 7) ≡ 8 * (first + i) + 7 = omega arith in
    ap (λ (xs : List ℕ). get_or xs (8 * i + 7) 0) e ∙ get_or-take n (drop (first * 8) bytes) (8 * i + 7) 0 h ∙ get_or-drop (first * 8) bytes (8 * i + 7) 0 ∙ ap (λ (k : ℕ). get_or bytes k 0) at

-- a page more of a run was looked at
pub run_more : (state : PageState) (bytes into now more old : List ℕ) (first i n : ℕ) → into ≡ take n (drop (first * 8) bytes) → 8 * i + 7 < n
    → now ≡ old ++ filter (is_page_in state bytes) (pages_from first i) → more ≡ now ++ cond (is_in state (get_or into (8 * i + 7) 0)) ((first + i) ∷ []) []
    → more ≡ old ++ filter (is_page_in state bytes) (pages_from first (i + 1))
unfolding is_page_in
run_more state bytes into now more old first i n e h so_far is =
    let test : ℕ → Bool = is_page_in state bytes in
    let top : is_in state (get_or into (8 * i + 7) 0) ≡ test (first + i) = ap (is_in state) (entry_read bytes into first i n e h) in
    is ∙ ap (λ (xs : List ℕ). xs ++ cond (is_in state (get_or into (8 * i + 7) 0)) ((first + i) ∷ []) []) so_far
    ∙ append_assoc old (filter test (pages_from first i)) _
    ∙ ap (λ (b : Bool). old ++ (filter test (pages_from first i) ++ cond b ((first + i) ∷ []) [])) top
    ∙ ap (λ (xs : List ℕ). old ++ xs) (sym (filter_of_map_range_with_len_more test (λ k. first + k) 0 i i (omega arith)))

-- a run behind another
pub pages_both : (first n m : ℕ) → pages_from first (n + m) ≡ pages_from first n ++ pages_from (first + n) m
pages_both first n zero =
    let none : n + 0 ≡ n = omega arith in
    ap (λ (k : ℕ). pages_from first k) none ∙ sym (append-nil (pages_from first n))
pages_both first n (suc m) =
    let next : n + suc m ≡ n + m + 1 = omega arith in
    let last : suc m ≡ m + 1 = omega arith in
    let place : first + (n + m) ≡ first + n + m = omega arith in
    ap (λ (k : ℕ). pages_from first k) next ∙ map-range_with_len_more (λ k. first + k) 0 (n + m) (n + m) (omega arith)
    ∙ ap (λ (xs : List ℕ). xs ++ (first + (n + m)) ∷ []) (pages_both first n m) ∙ append_assoc (pages_from first n) (pages_from (first + n) m) ((first + (n + m)) ∷ [])
    ∙ ap (λ (k : ℕ). pages_from first n ++ (pages_from (first + n) m ++ k ∷ [])) place
    ∙ ap (λ (xs : List ℕ). pages_from first n ++ xs) (sym (ap (λ (k : ℕ). pages_from (first + n) k) last ∙ map-range_with_len_more (λ k. first + n + k) 0 m m (omega arith)))

-- a run more of a segment was looked at
pub range_more : (p : ℕ → Bool) (old now more : List ℕ) (first done run : ℕ) → now ≡ old ++ filter p (pages_from first done) → more ≡ now ++ filter p (pages_from (first + done) run)
    → more ≡ old ++ filter p (pages_from first (done + run))
range_more p old now more first done run so_far is =
    is ∙ ap (λ (xs : List ℕ). xs ++ filter p (pages_from (first + done) run)) so_far
    ∙ append_assoc old (filter p (pages_from first done)) (filter p (pages_from (first + done) run))
    ∙ ap (λ (xs : List ℕ). old ++ xs) (sym (ap (filter p) (pages_both first done run) ∙ filter-append p (pages_from first done) (pages_from (first + done) run)))

-- the pages of a segment of whole pages
pub whole_pages : (s : Segment) → s.len % 4096 ≡ 0 → pages_from (s.offset / 4096) (s.len / 4096) ≡ pages_in s
unfolding page_count
whole_pages s h =
    let same : s.len / 4096 ≡ (s.len + 4095) / 4096 = omega (arith, h) in
    ap (λ (k : ℕ). pages_from (s.offset / 4096) k) same

pub range_all : (p : ℕ → Bool) (old : List ℕ) (s : Segment) (done : ℕ) → s.len % 4096 ≡ 0 → done ≡ s.len / 4096
    → old ++ filter p (pages_from (s.offset / 4096) done) ≡ old ++ filter p (pages_in s)
range_all p old s done h e = ap (λ (k : ℕ). old ++ filter p (pages_from (s.offset / 4096) k)) e ∙ ap (λ (xs : List ℕ). old ++ filter p xs) (whole_pages s h)

-- a segment more was looked at
pub ranges_more : (p : ℕ → Bool) (now more : List ℕ) (before after : List Segment) (s : Segment) → after ≡ before ++ s ∷ [] → now ≡ filter p (numbers before)
    → more ≡ now ++ filter p (pages_in s) → more ≡ filter p (numbers after)
ranges_more p now more before after s e so_far is =
    is ∙ ap (λ (xs : List ℕ). xs ++ filter p (pages_in s)) so_far ∙ sym (filter-append p (numbers before) (pages_in s)) ∙ ap (filter p) (sym (segment_more before after s (pages_in s) e refl))
