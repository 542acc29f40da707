-- What a merge makes of files and fleets.
use Rattle.std.proofs.Common.{◌≡◌, ℕ, suc, zero, ◌<◌, List, [], ◌∷◌, ◌++◌, length, map, replicate, take, get_or, refl, sym, ap, ◌∙◌, arith, inl, inr}
use Rattle.std.proofs.lemmas.Bool.{cases_eq}
use Rattle.std.proofs.lemmas.List.{ext_get_or, get_or-map, get_or-take, length-map, length-replicate, length-take, nil_from_length, take_all}
use Rattle.std.proofs.lemmas.List.FromFn.{get_or-map-range_with_len, length-map-range_with_len}
use Rattle.std.specs.Prelude.{Option, Some, None, Ok, Err, filter, max, sum_by}
use Rattle.std.specs.List.{range_with_len, slice_split}
use Rattle.std.specs.Option.{option_map}
use Rattle.digest_text.specs.Fields.{Row}
use Rattle.digest_text.specs.Rows.{◌>>=◌, is_feed, rows_after}
use Rattle.digest_text.specs.Left.{left}
use Rattle.digest_text.specs.Unread.{rows_left}
use Rattle.digest_text.specs.declared.digest_reader.DigestReader.{DigestReader}
use Rattle.digest_text.specs.declared.so_far.SoFar.{SoFar}
use Rattle.guest_digests.specs.declared.line.DigestLine.{DigestLine}
use Rattle.fleet_census.specs.Amounts.{all_digests, sum_below}
use Rattle.fleet_census.specs.Classes.{has_contents, no_class, no_contents}
use Rattle.fleet_census.specs.Fleets.{class_below, class_numbers, copies_table, guest_numbers, lines_of, pages_of, pair_below, pair_table, pairs_counted}
use Rattle.fleet_census.specs.Gathers.{AreZeros}
use Rattle.fleet_census.specs.Merged.{IsCounted}
use Rattle.fleet_census.specs.Numbers.{IsAllCounted, IsMerged, IsSampleOf, fleet_of, rows_in}
use Rattle.fleet_census.specs.Openings.{AreWhole, IsOpenTo}
use Rattle.fleet_census.specs.Pairs.{empty_rows, no_pair, pair_at, row_lengths, rows_for, rows_of}
use Rattle.fleet_census.specs.States.{AreBehind, AreChained, AreSound, From, IsFaultOf, Said}
use Rattle.fleet_census.specs.Steps.{no_amount, no_guest}
use Rattle.fleet_census.specs.Tallies.{AreTallied}
use Rattle.fleet_census.specs.declared.entry.Entry.{Entry}
use Rattle.fleet_census.specs.declared.fault.FleetFault.{FleetFault}
use Rattle.fleet_census.specs.declared.fault.FleetFault.TheVariants.{OutOfMemory, TooManyDigests, TooManyPages, OtherSample, Read, Line}
use Rattle.fleet_census.specs.declared.guest.FleetGuest.{FleetGuest}
use Rattle.fleet_census.specs.declared.open.Opening.{Opening}
use Rattle.fleet_census.specs.declared.pair.FleetPair.{FleetPair}
use Rattle.fleet_census.specs.declared.pair.Pairs.{Pairs}
use Rattle.fleet_census.specs.declared.pair.Pairs.TheVariants.{Counted, Omitted}
use Rattle.fleet_census.specs.declared.tally.Tally.{Tally}
use Rattle.fleet_census.proofs.Paired.{as_many, row_long}
use Rattle.fleet_census.proofs.Rising.{rows_from}

-- nothing of a file was read yet
nothing_read : (said : Said) → said ≡ (said >>= λ rest. Ok ([] ++ rest))
nothing_read (Ok rows) = refl
nothing_read (Err fault) = refl

-- as many files as readers
pub same_length : {T : Type 0} (say : T → Option Said) (readers : List T) (files : List Said) → map say readers ≡ map Some files → length files ≡ length readers
same_length say readers files is = let lens = ap length is in omega (arith, lens, length-map readers say, length-map files Some)

pub unread_chained : (files : List Said) (leaves : List Entry) (rows_left : List (Option Said)) → rows_left ≡ map Some files → AreChained files 0 leaves rows_left
unread_chained files leaves rows_left is = record {
  each = λ file lt. record {
    done = [];
    left = get_or files file (Ok []);
    is = rw is (get_or-map Some files file (Ok []) None lt);
    whole = nothing_read (get_or files file (Ok []));
  };
  ended = λ file lt. absurd (omega arith);
}

module _ (fleet : List (List Row)) (leaves : List Entry) (rows_left : List (Option Said)) (zeros : List ℕ) (guests : List FleetGuest) (opening : Opening)
    (opened : IsOpenTo fleet (length fleet) leaves rows_left zeros guests opening) where
  pub opened_behind : AreBehind fleet (λ file. 0) leaves rows_left
  opened_behind = record { each = opened.behind }

  pub opened_zeros : AreZeros fleet zeros
  opened_zeros = record { each = opened.zeros_are }

  pub opened_pages : opening.pages ≡ sum_by pages_of fleet
  opened_pages = opened.pages_are ∙ ap (sum_by pages_of) (take_all (length fleet) fleet (omega arith))

  -- before the first content is counted
  pub opened_tallied : {A : Type 0} (every : ℕ) (tally : Tally A) → tally.guests.items ≡ guests
      → tally.total ≡ record { pages = opening.pages; zero = 0; shared = no_amount; frames = no_amount; reclaimed = no_amount; zero_reclaimed = 0; between = no_amount }
      → tally.classes.items ≡ map no_contents (range_with_len 0 65)
      → ((file other : ℕ) → pair_at (rows_of tally.pairs.items) file other ≡ no_pair) → tally.weight ≡ 0 → AreTallied fleet every 0 tally
  unfolding sum_below
  opened_tallied every tally guests_are total classes pairless weightless = record {
    guests = λ file lt. rw guests_are (opened.guests_are file lt);
    total = total ∙ rw opened_pages refl;
    classes = λ number lt. rw classes (get_or-map-range_with_len no_contents 0 65 number number no_class lt (omega arith));
    pairs = λ file other lt before within_row. pairless file other;
    weight_is = weightless;
    light = omega (arith, weightless);
  }

  -- what one sample they have
  pub opened_sample : (sample : ℕ) → sample ≡ max opening.every 1 → IsSampleOf fleet sample
  opened_sample sample is = elim (cases_eq opening.every 0) [
    | inl none ↦ record {
      least = omega (arith, is);
      one = λ file lt. elim (opened.one file lt) [
        | inl e ↦ inl e
        | inr e ↦ inl (e ∙ none)
      ];
      some = inl (is ∙ rw none refl);
    }
    | inr some ↦
        let same : sample ≡ opening.every = omega (arith, is) in
        record {
          least = omega (arith, is);
          one = λ file lt. elim (opened.one file lt) [
            | inl e ↦ inl e
            | inr e ↦ inr (e ∙ sym same)
          ];
          some = elim opened.some [
            | inl none ↦ absurd (some none)
            | inr one ↦ inr (one.0, one.1, one.2 ∙ sym same)
          ];
        }
  ]

-- a fault of the lines behind them
pub count_read : {A : Type 0} (fleet : List (List Row)) (sample : ℕ) (tally : Tally A) (fault : FleetFault) → IsSampleOf fleet sample
    → IsCounted fleet sample tally (Err fault) → IsAllCounted fleet tally (Err fault)
count_read fleet sample tally OutOfMemory is h = tt
count_read fleet sample tally TooManyDigests is h = absurd h
count_read fleet sample tally TooManyPages is h = inr (record { sample = sample; is = is; most = h })
count_read fleet sample tally (OtherSample number) is h = absurd h
count_read fleet sample tally (Read number error) is h = tt
count_read fleet sample tally (Line number fault) is h = tt

-- the lines of a whole file rise
from_nothing : (low : ℕ) (lines : List DigestLine) → From low lines → From 0 lines
from_nothing low [] from = tt
from_nothing low (line ∷ lines) from = (omega arith, from.1, from.2)

rise : (line : ℕ) (so_far : Option SoFar) (left : Option (List ℕ)) (rows : List Row) → option_map (rows_after line so_far) left ≡ Some (Ok rows) → From 0 (lines_of rows)
rise line so_far None rows e = absurd cc
rise line so_far (Some bytes) rows e = from_nothing _ (lines_of rows) (rows_from line so_far (slice_split is_feed bytes) rows cc)

module _ {R A : Type 0} (remaining : R → Option (List ℕ)) where
  all_rise : (readers : List (DigestReader R A)) (file : ℕ) (rows : List Row) → get_or (map (rows_left remaining) readers) file None ≡ Some (Ok rows) → From 0 (lines_of rows)
  all_rise [] file rows e = absurd cc
  all_rise (reader ∷ readers) zero rows e = rise reader.line reader.so_far (left remaining reader.lines) rows e
  all_rise (reader ∷ readers) (suc file) rows e = all_rise readers file rows e

  -- files of which none is at fault
  pub whole : (readers : List (DigestReader R A)) (files : List Said) → map (rows_left remaining) readers ≡ map Some files → AreSound files
      → AreWhole (fleet_of files) (map (rows_left remaining) readers)
  whole readers files is sound =
      let said : (file : ℕ) → file < length (fleet_of files) → get_or (map (rows_left remaining) readers) file None ≡ Some (Ok (get_or (fleet_of files) file [])) = λ file lt.
      let within : file < length files = omega (arith, length-map files rows_in) in
      let it = sound.each file within in
      rw is (get_or-map Some files file (Ok []) None within ∙ ap Some (it.is ∙ ap Ok (sym (get_or-map rows_in files file (Ok []) [] within ∙ rw it.is refl)))) in
      record { rows_left_are = said; rise = λ file lt. all_rise readers file (get_or (fleet_of files) file []) (said file lt) }

-- a fault of a merge
pub fault_merged : {A : Type 0} (files : List Said) (pairs : Pairs) (tally : Tally A) (fault : FleetFault) → IsFaultOf files fault → (AreSound files → IsAllCounted (fleet_of files) tally (Err fault)) → IsMerged {A = A} files pairs (Err fault)
fault_merged files pairs tally OutOfMemory rows_left counted = tt
fault_merged files pairs tally TooManyDigests rows_left counted = absurd rows_left
fault_merged files pairs tally TooManyPages rows_left counted = counted
fault_merged files pairs tally (OtherSample number) rows_left counted = counted
fault_merged files pairs tally (Read number error) rows_left counted = tt
fault_merged files pairs tally (Line number fault) rows_left counted = rows_left

-- the guests' numbers, the classes and the pairs, where all digests are counted
module _ {A : Type 0} (fleet : List (List Row)) (sample : ℕ) (tally : Tally A) (tallied : AreTallied fleet sample all_digests tally) where
  pub guests_are : length tally.guests.items ≡ length fleet → tally.guests.items ≡ map (guest_numbers fleet) fleet
  guests_are long = ext_get_or no_guest tally.guests.items (map (guest_numbers fleet) fleet) (long ∙ sym (length-map fleet (guest_numbers fleet)))
      (λ file lt. tallied.guests file (omega arith) ∙ sym (get_or-map (guest_numbers fleet) fleet file [] no_guest (omega arith)))

  all_classes : length tally.classes.items ≡ 65 → tally.classes.items ≡ map (class_below fleet all_digests) class_numbers
  unfolding class_numbers
  all_classes long = ext_get_or no_class tally.classes.items (map (class_below fleet all_digests) (range_with_len 0 65)) (long ∙ sym (length-map-range_with_len (class_below fleet all_digests) 0 65))
      (λ number lt. tallied.classes number (omega arith) ∙ sym (get_or-map-range_with_len (class_below fleet all_digests) 0 65 number number no_class (omega arith) (omega arith)))

  pub classes_are : length tally.classes.items ≡ 65 → filter has_contents tally.classes.items ≡ copies_table fleet
  classes_are long = ap (filter has_contents) (all_classes long)

  -- and what each two of them have in common
  row_is : (file : ℕ) → file < length fleet → length (get_or (rows_of tally.pairs.items) file []) ≡ file
      → get_or (rows_of tally.pairs.items) file [] ≡ map (pair_below fleet all_digests (get_or fleet file [])) (take file fleet)
  row_is file lt long =
      let row = get_or (rows_of tally.pairs.items) file [] in
      let pair : List Row → FleetPair = pair_below fleet all_digests (get_or fleet file []) in
      let before : length (take file fleet) ≡ file = omega (arith, length-take file fleet, lt) in
      ext_get_or no_pair row (map pair (take file fleet)) (omega (arith, long, length-map (take file fleet) pair, before)) (λ other within.
      let apart : other < file = omega (arith, within, long) in
      tallied.pairs file other lt apart within ∙ sym (get_or-map pair (take file fleet) other [] no_pair (omega (arith, before, apart)) ∙ ap pair (get_or-take file fleet other [] apart)))

  pub pairs_are : (pairs : Pairs) → row_lengths (rows_of tally.pairs.items) ≡ row_lengths (rows_for pairs (length fleet)) → rows_of tally.pairs.items ≡ pairs_counted pairs fleet
  pairs_are Omitted lengths = nil_from_length (rows_of tally.pairs.items) (as_many (rows_of tally.pairs.items) [] lengths)
  pairs_are Counted lengths =
      let rows = rows_of tally.pairs.items in
      let n = length fleet in
      let row : ℕ → List FleetPair = λ file. map (pair_below fleet all_digests (get_or fleet file [])) (take file fleet) in
      let empty : ℕ → List FleetPair = λ before. replicate before no_pair in
      let many : length rows ≡ n = as_many rows (empty_rows n) lengths ∙ length-map-range_with_len empty 0 n in
      ext_get_or [] rows (pair_table fleet) (many ∙ sym (length-map-range_with_len row 0 n)) (λ file within.
      let lt : file < n = omega (arith, within, many) in
      let long : length (get_or rows file []) ≡ file =
      row_long rows (empty_rows n) file lengths ∙ ap length (get_or-map-range_with_len empty 0 n file file [] lt (omega arith)) ∙ length-replicate file no_pair in
      row_is file lt long ∙ sym (get_or-map-range_with_len row 0 n file file [] lt (omega arith)))
