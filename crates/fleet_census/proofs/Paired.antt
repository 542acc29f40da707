-- What each two guests have in common, with one content more.
use Rattle.std.proofs.Common.{◌≡◌, ℕ, zero, suc, ◌+◌, ◌<◌, ◌≤◌, List, [], ◌∷◌, ◌++◌, length, replicate, take, get_or, set, refl, sym, ap, ◌∙◌, arith, inl, inr, get_or-set_other, get_or-set_same}
use Rattle.std.proofs.lemmas.Bool.{cases_lt, cases_eq}
use Rattle.std.proofs.lemmas.List.{get_or-map, get_or_past, length-map, map-set, take_more}
use Rattle.std.proofs.lemmas.List.FromFn.{get_or-map-range_with_len, length-map-range_with_len}
use Rattle.std.proofs.Math.Seq.{map-set_same}
use Rattle.std.specs.Prelude.{Option, Some, None}
use Rattle.std.specs.declared.vec.Vec.{Vec}
use Rattle.fleet_census.specs.Holders.{AreRising, found, no_holder}
use Rattle.fleet_census.specs.Pairs.{empty_rows, no_pair, pair_after, pair_at, row_lengths, rows_for, rows_of}
use Rattle.fleet_census.specs.declared.content.Content.{Content}
use Rattle.fleet_census.specs.declared.content.Holder.{Holder}
use Rattle.fleet_census.specs.declared.pair.FleetPair.{FleetPair}
use Rattle.fleet_census.specs.declared.pair.Pairs.{Pairs}
use Rattle.fleet_census.specs.declared.pair.Pairs.TheVariants.{Counted, Omitted}
use Rattle.fleet_census.proofs.Found.{found_before, found_push, found_push_other, not_yet}

lengths_at : (rows : List (List FleetPair)) (file : ℕ) → get_or (row_lengths rows) file 0 ≡ length (get_or rows file [])
lengths_at [] file = refl
lengths_at (row ∷ rows) zero = refl
lengths_at (row ∷ rows) (suc file) = lengths_at rows file

-- rows of the same lengths
pub row_long : (rows before : List (List FleetPair)) (file : ℕ) → row_lengths rows ≡ row_lengths before → length (get_or rows file []) ≡ length (get_or before file [])
row_long rows before file same = sym (lengths_at rows file) ∙ ap (λ (lengths : List ℕ). get_or lengths file 0) same ∙ lengths_at before file

pub as_many : (rows before : List (List FleetPair)) → row_lengths rows ≡ row_lengths before → length rows ≡ length before
as_many rows before same = omega (arith, ap length same, length-map rows length, length-map before length)

-- an entry is of a row
in_row : (rows : List (List FleetPair)) (file other : ℕ) → other < length (get_or rows file []) → file < length rows
in_row rows file other lt = elim (cases_lt file (length rows)) [
  | inl low ↦ low
  | inr past ↦ let none : get_or rows file [] ≡ [] = get_or_past rows file [] past in absurd (omega (arith, ap length none, lt))
]

module _ (content : Content) (before rows : List (List FleetPair)) (holders : List Holder) (k : ℕ) (rising : AreRising holders) (within : k < length holders)
    (same : row_lengths rows ≡ row_lengths before)
    (so_far : (file other : ℕ) → other < file → other < length (get_or before file [])
    → pair_at rows file other ≡ pair_after content (pair_at before file other) (found file (take k holders)) (found other holders)) where
  -- the row of one more of those that list the content
  pub row_counted : (row : List FleetPair) → (get_or holders k no_holder).file < length rows
      → ((other : ℕ) → other < length (get_or rows (get_or holders k no_holder).file []) → get_or row other no_pair
      ≡ pair_after content (get_or (get_or rows (get_or holders k no_holder).file []) other no_pair) (Some (get_or holders k no_holder)) (found other (take k holders)))
      → (file other : ℕ) → other < file → other < length (get_or before file [])
      → pair_at (set rows (get_or holders k no_holder).file row) file other
      ≡ pair_after content (pair_at before file other) (found file (take (k + 1) holders)) (found other holders)
  row_counted row low counted file other apart lt =
      let holder = get_or holders k no_holder in
      let more : take (k + 1) holders ≡ take k holders ++ holder ∷ [] = take_more holders k no_holder within in
      elim (cases_eq holder.file file) [
        | inl e ↦
            let absent : found file (take k holders) ≡ None = rw e at (not_yet holders k rising within) in
            let here : get_or (set rows holder.file row) file [] ≡ row = rw e (get_or-set_same rows file row [] (omega (arith, low, e))) in
            let old : pair_at rows file other ≡ pair_at before file other =
            so_far file other apart lt ∙ ap (λ (which : Option Holder). pair_after content (pair_at before file other) which (found other holders)) absent in
            let known : found other (take k holders) ≡ found other holders = found_before holders k other rising within (omega (arith, e, apart)) in
            let within_row : other < length (get_or rows holder.file []) = rw e (omega (arith, lt, row_long rows before file same)) in
            let now : get_or row other no_pair ≡ pair_after content (pair_at rows file other) (Some holder) (found other (take k holders)) = rw e at (counted other within_row) in
            ap (λ (r : List FleetPair). get_or r other no_pair) here ∙ now ∙ rw (old, known, more, found_push file (take k holders) holder e absent) refl
        | inr ne ↦
            let here : get_or (set rows holder.file row) file [] ≡ get_or rows file [] = get_or-set_other rows holder.file file row [] (λ e. ne (sym e)) in
            ap (λ (r : List FleetPair). get_or r other no_pair) here ∙ so_far file other apart lt ∙ rw (more, found_push_other file (take k holders) holder ne) refl
      ]

  -- and one without a row
  pub row_past : length rows ≤ (get_or holders k no_holder).file → (file other : ℕ) → other < file → other < length (get_or before file [])
      → pair_at rows file other ≡ pair_after content (pair_at before file other) (found file (take (k + 1) holders)) (found other holders)
  row_past past file other apart lt =
      let holder = get_or holders k no_holder in
      let more : take (k + 1) holders ≡ take k holders ++ holder ∷ [] = take_more holders k no_holder within in
      so_far file other apart lt ∙ rw (more, found_push_other file (take k holders) holder (λ e. omega (arith, e, past, in_row before file other lt, as_many rows before same))) refl

module _ {A : Type 0} where
  pub as_many_rows : (rows : List (Vec FleetPair A)) → length (rows_of rows) ≡ length rows
  as_many_rows rows = let items : Vec FleetPair A → List FleetPair = λ r. r.items in length-map rows items

  -- one of the rows
  pub row_of : (rows : List (Vec FleetPair A)) (file : ℕ) (row : Vec FleetPair A) → file < length rows → row ≡ get_or rows file row → get_or (rows_of rows) file [] ≡ row.items
  row_of rows file row lt is =
      let items : Vec FleetPair A → List FleetPair = λ r. r.items in
      get_or-map items rows file row [] lt ∙ ap items (sym is)

  -- another row in its place
  pub rows_set : (rows : List (Vec FleetPair A)) (file : ℕ) (row : Vec FleetPair A) → rows_of (set rows file row) ≡ set (rows_of rows) file row.items
  rows_set rows file row = let items : Vec FleetPair A → List FleetPair = λ r. r.items in map-set items rows file row

  pub lengths_stay : (rows : List (Vec FleetPair A)) (file : ℕ) (row : Vec FleetPair A) → length row.items ≡ length (get_or (rows_of rows) file [])
      → row_lengths (rows_of (set rows file row)) ≡ row_lengths (rows_of rows)
  lengths_stay rows file row same = ap row_lengths (rows_set rows file row) ∙ map-set_same length (rows_of rows) file row.items [] same

alike : (n other : ℕ) → get_or (replicate n no_pair) other no_pair ≡ no_pair
alike zero other = refl
alike (suc n) zero = refl
alike (suc n) (suc other) = alike n other

-- nothing is counted in new rows
pub none_paired : (pairs : Pairs) (guests file other : ℕ) → pair_at (rows_for pairs guests) file other ≡ no_pair
none_paired Omitted guests file other = refl
none_paired Counted guests file other = elim (cases_lt file guests) [
  | inl lt ↦ rw (get_or-map-range_with_len (λ (n : ℕ). replicate n no_pair) 0 guests file file [] lt (omega arith)) (alike file other)
  | inr past ↦ rw (get_or_past (empty_rows guests) file [] (omega (arith, length-map-range_with_len (λ (n : ℕ). replicate n no_pair) 0 guests, past))) refl
]
