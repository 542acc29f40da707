-- Pages of one segment after the other.
use Rattle.std.proofs.Common.{◌≡◌, ℕ, ◌+◌, ◌-◌, ◌^◌, min, ◌<◌, ◌≤◌, ◌⊎◌, inl, inr, List, [], ◌∷◌, ◌++◌, length, take, drop, get_or, refl, ap, sym, ◌∙◌, arith, append_assoc, length-append, append-nil, rules}
use Rattle.std.proofs.lemmas.Bool.{cases_eq}
use Rattle.std.proofs.lemmas.List.{length-take, length-drop, take_all, drop_all, take-append-le, drop-append-le, drop-drop, drop_at, take_at, at_drop_more, take-append-drop}
use Rattle.std.proofs.lemmas.List.Concat.{flat_map-append}
use Rattle.std.proofs.lemmas.List.Elements.{All-head, All-tail, All-take}
use Rattle.std.proofs.lemmas.List.Sums.{sum_by-cons, sum_by-take-drop}
use Rattle.std.proofs.Math.Seq.{take-add}
use Rattle.memory_images.specs.Pages.{page_count, segment_pages, pages_of, count_of, AreWithin}
use Rattle.memory_images.specs.declared.segment.Segment.{Segment}
use Rattle.memory_images.proofs.Cut.{length-segment_pages}

-- how many pages segments hold
pub length-pages_of : (bytes : List ℕ) (segments : List Segment) → AreWithin (length bytes) segments → length (pages_of segments bytes) ≡ count_of segments
length-pages_of bytes [] h = refl
length-pages_of bytes (s ∷ rest) h =
    let P : Segment → Type 0 = λ segment. segment.offset + segment.len ≤ length bytes in
    omega (arith, length-append (segment_pages bytes s) (pages_of rest bytes), length-segment_pages bytes s (All-head P s rest h), length-pages_of bytes rest (All-tail P s rest h), sum_by-cons (λ (segment : Segment). page_count segment.len) s rest)

module _ {X : Type 0} (here rest : List X) where
  drop_past : (n : ℕ) → length here ≤ n → drop n (here ++ rest) ≡ drop (n - length here) rest
  drop_past n h =
      let is : n ≡ length here + (n - length here) = omega (arith, h) in
      ap (λ (k : ℕ). drop k (here ++ rest)) is ∙ sym (drop-drop (n - length here) (length here) (here ++ rest)) ∙ ap (drop (n - length here)) (drop_at here rest (length here) refl)

  take_past : (n : ℕ) → length here ≤ n → take n (here ++ rest) ≡ here ++ take (n - length here) rest
  take_past n h =
      let is : n ≡ length here + (n - length here) = omega (arith, h) in
      ap (λ (k : ℕ). take k (here ++ rest)) is ∙ take-add (length here) (n - length here) (here ++ rest) ∙ rw (take_at here rest (length here) refl, drop_at here rest (length here) refl) refl

-- what is taken from two lists, one after the other
pub taken_apart : {X : Type 0} (here rest : List X) (skip n run : ℕ) → skip ≤ length here → run ≡ min (length here - skip) n
    → take run (drop skip here) ++ take (n - run) (drop 0 rest) ≡ take n (drop skip (here ++ rest))
taken_apart here rest skip n run h e = apart_cases (cases_eq run n) where
  apart : drop skip (here ++ rest) ≡ drop skip here ++ rest
  apart = drop-append-le skip here rest h

  long : length (drop skip here) ≡ length here - skip
  long = length-drop skip here

  apart_cases : (run ≡ n) ⊎ (run ≡ n → ⊥) → take run (drop skip here) ++ take (n - run) (drop 0 rest) ≡ take n (drop skip (here ++ rest))
  apart_cases (inl is) =
      let none : n - run ≡ 0 = omega (arith, is) in
      rw (none, apart, take-append-le n (drop skip here) rest (omega (arith, long, e, is)), is) (search rules)
  apart_cases (inr less) =
      let all : run ≡ length (drop skip here) = omega (arith, long, e, less) in
      rw (apart, take_past (drop skip here) rest n (omega (arith, all, e)), take_all run (drop skip here) (omega (arith, all)), all) refl

module _ (bytes : List ℕ) (segments : List Segment) (i : ℕ) (d : Segment) (l : i < length segments) (W : AreWithin (length bytes) segments) where
  next : pages_of (drop i segments) bytes ≡ segment_pages bytes (get_or segments i d) ++ pages_of (drop (i + 1) segments) bytes
  next = at_drop_more (λ (xs : List Segment). pages_of xs bytes) segments i d l

  long : length (segment_pages bytes (get_or segments i d)) ≡ page_count (get_or segments i d).len
  long = length-segment_pages bytes (get_or segments i d) (W i d l)

  all_long : length (pages_of (drop i segments) bytes) ≡ page_count (get_or segments i d).len + length (pages_of (drop (i + 1) segments) bytes)
  all_long = ap length next ∙ length-append (segment_pages bytes (get_or segments i d)) (pages_of (drop (i + 1) segments) bytes) ∙ ap (λ (k : ℕ). k + length (pages_of (drop (i + 1) segments) bytes)) long

  -- the segment is passed over
  pub passed_left : (pages skip m : ℕ) → pages ≡ page_count (get_or segments i d).len → pages ≤ skip → skip + m ≤ length (pages_of (drop i segments) bytes)
      → skip - pages + m ≤ length (pages_of (drop (i + 1) segments) bytes)
  passed_left pages skip m e h w = omega (arith, all_long, e, h, w)

  pub passed_pages : (pages skip m : ℕ) → pages ≡ page_count (get_or segments i d).len → pages ≤ skip
      → take m (drop (skip - pages) (pages_of (drop (i + 1) segments) bytes)) ≡ take m (drop skip (pages_of (drop i segments) bytes))
  passed_pages pages skip m e h =
      let size : length (segment_pages bytes (get_or segments i d)) ≡ pages = long ∙ sym e in
      ap (take m) (ap (λ (k : ℕ). drop (skip - k) (pages_of (drop (i + 1) segments) bytes)) (sym size) ∙ sym (drop_past (segment_pages bytes (get_or segments i d)) (pages_of (drop (i + 1) segments) bytes) skip (omega (arith, size, h))) ∙ ap (drop skip) (sym next))

  -- pages of the segment are read
  pub read_left : (pages skip m run : ℕ) → pages ≡ page_count (get_or segments i d).len → skip < pages → run ≡ min (pages - skip) m → skip + m ≤ length (pages_of (drop i segments) bytes)
      → m - run ≤ length (pages_of (drop (i + 1) segments) bytes)
  read_left pages skip m run e h r w = omega (arith, all_long, e, h, r, w)

  pub read_pages : (pages skip m run n : ℕ) (got : List (List ℕ)) → pages ≡ page_count (get_or segments i d).len → skip < pages → run ≡ min (pages - skip) m
      → n ≡ run → got ≡ take n (drop skip (segment_pages bytes (get_or segments i d)))
      → got ++ take (m - run) (drop 0 (pages_of (drop (i + 1) segments) bytes)) ≡ take m (drop skip (pages_of (drop i segments) bytes))
  read_pages pages skip m run n got e h r same is =
      let size : length (segment_pages bytes (get_or segments i d)) ≡ pages = long ∙ sym e in
      ap (λ (xs : List (List ℕ)). xs ++ take (m - run) (drop 0 (pages_of (drop (i + 1) segments) bytes))) (is ∙ ap (λ (k : ℕ). take k (drop skip (segment_pages bytes (get_or segments i d)))) same)
      ∙ taken_apart (segment_pages bytes (get_or segments i d)) (pages_of (drop (i + 1) segments) bytes) skip m run (omega (arith, size, h)) (omega (arith, size, r))
      ∙ ap (λ (xs : List (List ℕ)). take m (drop skip xs)) (sym next)

-- two parts of a run that were read one after the other
pub both_read : {X : Type 0} (into got rest pages : List X) (n done first left : ℕ) → done ≤ n → length into ≡ n → length got ≡ done → left ≡ n - done
    → got ≡ take done (drop first pages) → rest ≡ take left (drop (first + done) pages)
    → take done (got ++ drop done into) ++ (rest ++ drop (length (got ++ drop done into) - done) (drop done (got ++ drop done into))) ≡ take n (drop first pages)
both_read into got rest pages n done first left h len here e eg er =
    let size : length (got ++ drop done into) ≡ n = omega (arith, length-append got (drop done into), length-drop done into, h, len, here) in
    let past : drop (length (got ++ drop done into) - done) (drop done (got ++ drop done into)) ≡ [] = drop_all _ (drop done (got ++ drop done into)) (omega (arith, length-drop done (got ++ drop done into))) in
    let all : n ≡ done + left = omega (arith, h, e) in
    rw (past, append-nil rest, take_at got (drop done into) done here, eg, er) (sym (ap (λ (k : ℕ). take k (drop first pages)) all ∙ take-add done left (drop first pages) ∙ ap (λ xs. take done (drop first pages) ++ take left xs) (drop-drop done first pages)))

-- what was read stands behind what was read before
pub read_on : {X : Type 0} (into new got post later all : List X) (done run : ℕ) → done ≤ length into → length got ≡ run → new ≡ take done into ++ (got ++ post)
    → take done into ++ (got ++ later) ≡ all → take (done + run) new ++ later ≡ all
read_on into new got post later all done run h len is read =
    let before : length (take done into) ≡ done = omega (arith, length-take done into, h) in
    let rest : done + run - length (take done into) ≡ run = omega (arith, before) in
    let placed : take (done + run) new ≡ take done into ++ got =
    ap (take (done + run)) is ∙ take_past (take done into) (got ++ post) (done + run) (omega (arith, before)) ∙ ap (λ (k : ℕ). take done into ++ take k (got ++ post)) rest ∙ ap (λ xs. take done into ++ xs) (take_at got post run len) in
    ap (λ xs. xs ++ later) placed ∙ append_assoc (take done into) got later ∙ read

module _ (bytes : List ℕ) (segments : List Segment) (k start : ℕ) (W : AreWithin (length bytes) segments) (is : start ≡ count_of (take k segments)) where
  parted : pages_of segments bytes ≡ pages_of (take k segments) bytes ++ pages_of (drop k segments) bytes
  parted = ap (λ (ss : List Segment). pages_of ss bytes) (sym (take-append-drop k segments)) ∙ flat_map-append (segment_pages bytes) (take k segments) (drop k segments)

  before : length (pages_of (take k segments) bytes) ≡ start
  before = length-pages_of bytes (take k segments) (All-take (λ (segment : Segment). segment.offset + segment.len ≤ length bytes) k segments W) ∙ sym is

  -- pages from the segment on, whose number and whose place are those among all
  pub later_left : length (pages_of segments bytes) ≡ start + length (pages_of (drop k segments) bytes)
  later_left = ap length parted ∙ length-append (pages_of (take k segments) bytes) (pages_of (drop k segments) bytes) ∙ ap (λ (n : ℕ). n + length (pages_of (drop k segments) bytes)) before

  pub later_pages : (first n : ℕ) → start ≤ first → take n (drop (first - start) (pages_of (drop k segments) bytes)) ≡ take n (drop first (pages_of segments bytes))
  later_pages first n h =
      ap (take n) (ap (λ (m : ℕ). drop (first - m) (pages_of (drop k segments) bytes)) (sym before)
      ∙ sym (drop_past (pages_of (take k segments) bytes) (pages_of (drop k segments) bytes) first (omega (arith, before, h))) ∙ ap (drop first) (sym parted))

  pub later_few : count_of segments < 2 ^ 32 → count_of (drop k segments) < 2 ^ 32
  later_few h = omega (arith, h, sum_by-take-drop (λ (segment : Segment). page_count segment.len) segments k)
