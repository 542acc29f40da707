-- Pages that are cut out of bytes.
use Rattle.std.proofs.Common.{◌≡◌, ℕ, ◌+◌, ◌-◌, ◌*◌, min, ◌<◌, ◌≤◌, ◌⊎◌, inl, inr, List, [], ◌++◌, length, take, drop, map, set, get_or, replicate, refl, ap, sym, ◌∙◌, arith, append-nil}
use Rattle.std.specs.List.{range_with_len}
use Rattle.std.proofs.lemmas.Bool.{cases_eq}
use Rattle.std.proofs.lemmas.List.{length-take, length-drop, length-take-le, take-take, take_all, drop-take, drop-drop, drop_all, drop-replicate, get_or-take, get_or-drop, get_or-set_same, get_or-set_other, ext_get_or}
use Rattle.std.proofs.lemmas.List.FromFn.{length-map-range_with_len, get_or-map-range_with_len}
use Rattle.memory_images.specs.Words.{part}
use Rattle.memory_images.specs.Pages.{filled, page_of, page_count, segment_pages, pages_at}
use Rattle.memory_images.specs.declared.segment.Segment.{Segment}

pub length-part : (bytes : List ℕ) (at len : ℕ) → at + len ≤ length bytes → length (part bytes at len) ≡ len
length-part bytes at len h = length-take-le len (drop at bytes) (omega (arith, length-drop at bytes, h))

-- a page that is there begins before the end
pub begins_before : (len n : ℕ) → n < page_count len → 4096 * n < len
unfolding page_count
begins_before len n h = omega arith

counted_in : (len n : ℕ) → 4096 * (n + 1) ≤ len → n < page_count len
unfolding page_count
counted_in len n h = omega (arith, h)

counted_all : (len n : ℕ) → 4096 * n ≤ len → n ≤ page_count len
unfolding page_count
counted_all len n h = omega (arith, h)

-- the bytes of a page of a segment, in the file
cut_len : (bytes : List ℕ) (start m l : ℕ) → l ≡ min m 4096 → take 4096 (take m (drop start bytes)) ≡ take l (drop start bytes)
cut_len bytes start m l e = cut_cases (cases_eq l 4096) where
  cut_cases : (l ≡ 4096) ⊎ (l ≡ 4096 → ⊥) → take 4096 (take m (drop start bytes)) ≡ take l (drop start bytes)
  cut_cases (inl h) = rw h (take-take 4096 m (drop start bytes) (omega (arith, e, h)))
  cut_cases (inr h) =
      let is : l ≡ m = omega (arith, e, h) in
      rw is (take_all 4096 (take m (drop start bytes)) (omega (arith, length-take m (drop start bytes), e, h)))

pub cut_out : (bytes : List ℕ) (at len n l : ℕ) → 4096 * n < len → l ≡ min (len - 4096 * n) 4096
    → take 4096 (drop (4096 * n) (part bytes at len)) ≡ take l (drop (at + 4096 * n) bytes)
cut_out bytes at len n l h e =
    let m : ℕ = len - 4096 * n in
    let whole : len ≡ 4096 * n + m = omega (arith, h) in
    let rest : drop (4096 * n) (part bytes at len) ≡ take m (drop (at + 4096 * n) bytes) =
    ap (λ (k : ℕ). drop (4096 * n) (take k (drop at bytes))) whole ∙ drop-take (4096 * n) m (drop at bytes) ∙ ap (take m) (drop-drop (4096 * n) at bytes) in
    ap (take 4096) rest ∙ cut_len bytes (at + 4096 * n) m l e

zeros_left : (old : List ℕ) (l : ℕ) → l ≤ 4096 → length old ≡ 4096 → (l < 4096 → old ≡ replicate 4096 0) → drop l old ≡ replicate (4096 - l) 0
zeros_left old l h len z = zeros_cases (cases_eq l 4096) where
  zeros_cases : (l ≡ 4096) ⊎ (l ≡ 4096 → ⊥) → drop l old ≡ replicate (4096 - l) 0
  zeros_cases (inl is) = rw is (drop_all 4096 old (omega (arith, len)))
  zeros_cases (inr no_page) = ap (drop l) (z (omega (arith, h, no_page))) ∙ drop-replicate l 4096 0

-- a page that was read over zeros, or over anything where it is whole
pub page_read : (bytes old here : List ℕ) (at len n l m p : ℕ) → at + len ≤ length bytes → n < page_count len → l ≡ min (len - 4096 * n) 4096
    → length old ≡ 4096 → (l < 4096 → old ≡ replicate 4096 0) → m ≡ l → p ≡ at + 4096 * n → here ≡ take m (drop p bytes)
    → here ++ drop l old ≡ page_of (part bytes at len) n
unfolding page_of
page_read bytes old here at len n l m p w there e lo z em ep is =
    let before : 4096 * n < len = begins_before len n there in
    let cut : List ℕ = take l (drop (at + 4096 * n) bytes) in
    let same : here ≡ cut = is ∙ rw (em, ep) refl in
    let long : length cut ≡ l = length-part bytes (at + 4096 * n) l (omega (arith, w, before, e)) in
    ap (λ (xs : List ℕ). xs ++ drop l old) same ∙ ap (λ (xs : List ℕ). cut ++ xs) (zeros_left old l (omega (arith, e)) lo z ∙ ap (λ (k : ℕ). replicate (4096 - k) 0) (sym long)) ∙ ap filled (sym (cut_out bytes at len n l before e))

-- a run of pages that was read one by one
pub one_more : (f : ℕ → List ℕ) (i : ℕ) (into : List (List ℕ)) (x : List ℕ) → i < length into → x ≡ f i
    → ((k : ℕ) → k < i → get_or into k [] ≡ f k) → (k : ℕ) → k < i + 1 → get_or (set into i x) k [] ≡ f k
one_more f i into x l e h k kl = more_cases (cases_eq k i) where
  more_cases : (k ≡ i) ⊎ (k ≡ i → ⊥) → get_or (set into i x) k [] ≡ f k
  more_cases (inl is) = rw is (get_or-set_same into i x [] l ∙ e)
  more_cases (inr other) = get_or-set_other into i k x [] other ∙ h k (omega (arith, kl, other))

run_is : (f : ℕ → List ℕ) (count first n : ℕ) (into : List (List ℕ)) → first + n ≤ count → length into ≡ n
    → ((k : ℕ) → k < n → get_or into k [] ≡ f (first + k)) → into ≡ take n (drop first (map f (range_with_len 0 count)))
run_is f count first n into w len h =
    let all : List (List ℕ) = map f (range_with_len 0 count) in
    let many : length all ≡ count = length-map-range_with_len f 0 count in
    let long : length (take n (drop first all)) ≡ n = length-take-le n (drop first all) (omega (arith, length-drop first all, many, w)) in
    ext_get_or [] into (take n (drop first all)) (len ∙ sym long) (λ i l.
    let within : i < n = omega (arith, l, len) in
    h i within ∙ sym (get_or-take n (drop first all) i [] within ∙ get_or-drop first all i [] ∙ get_or-map-range_with_len f 0 count (first + i) (first + i) [] (omega (arith, w, within)) (omega arith)))

pub run_read : (bytes : List ℕ) (segment : Segment) (first n : ℕ) (into : List (List ℕ)) → segment.offset + segment.len ≤ length bytes → first + n ≤ page_count segment.len → length into ≡ n
    → ((k : ℕ) → k < n → get_or into k [] ≡ page_of (part bytes segment.offset segment.len) (first + k))
    → into ≡ take n (drop first (segment_pages bytes segment))
unfolding segment_pages
run_read bytes segment first n into w p len h =
    let long : length (part bytes segment.offset segment.len) ≡ segment.len = length-part bytes segment.offset segment.len w in
    run_is (page_of (part bytes segment.offset segment.len)) (page_count (length (part bytes segment.offset segment.len))) first n into (rw long p) len h

-- a run of whole pages that was read at once
whole_page : (bytes : List ℕ) (at len n p : ℕ) → at + len ≤ length bytes → 4096 * (n + 1) ≤ len → p ≡ at + 4096 * n → part bytes p 4096 ≡ page_of (part bytes at len) n
whole_page bytes at len n p w h e =
    let here : List ℕ = part bytes p 4096 in
    let there : n < page_count len = counted_in len n h in
    let size : length here ≡ 4096 = length-part bytes p 4096 (omega (arith, w, h, e)) in
    sym (append-nil here) ∙ ap (λ (xs : List ℕ). here ++ xs) (sym (drop_all 4096 here (omega (arith, size))))
    ∙ page_read bytes here here at len n 4096 4096 p w there (omega (arith, h)) size (λ l. absurd (omega (arith, l))) refl e refl

pub whole_read : (bytes : List ℕ) (segment : Segment) (first n at : ℕ) → segment.offset + segment.len ≤ length bytes → 4096 * (first + n) ≤ segment.len → at ≡ segment.offset + 4096 * first
    → pages_at bytes at n ≡ take n (drop first (segment_pages bytes segment))
whole_read bytes segment first n at w h e =
    let f : ℕ → List ℕ = λ k. part bytes (at + 4096 * k) 4096 in
    run_read bytes segment first n (map f (range_with_len 0 n)) w (counted_all segment.len (first + n) h) (length-map-range_with_len f 0 n) (λ k l.
    get_or-map-range_with_len f 0 n k k [] l (omega arith) ∙ whole_page bytes segment.offset segment.len (first + k) (at + 4096 * k) w (omega (arith, h, l)) (omega (arith, e)))

pub length-segment_pages : (bytes : List ℕ) (segment : Segment) → segment.offset + segment.len ≤ length bytes → length (segment_pages bytes segment) ≡ page_count segment.len
unfolding segment_pages
length-segment_pages bytes segment w =
    length-map-range_with_len (page_of (part bytes segment.offset segment.len)) 0 (page_count (length (part bytes segment.offset segment.len))) ∙ ap page_count (length-part bytes segment.offset segment.len w)
