-- One content after the other is counted.
use Rattle.std.proofs.Common.{◌≡◌, ◌≢◌, ℕ, suc, ◌+◌, ◌-◌, ◌<◌, ◌≤◌, ◌^◌, ◌⊎◌, List, [], length, get_or, refl, sym, ap, ◌∙◌, arith, inl, inr}
use Rattle.std.proofs.lemmas.Bool.{cases_lt}
use Rattle.std.proofs.lemmas.List.{get_or_past}
use Rattle.std.specs.Prelude.{Option, None, Err}
use Rattle.digest_text.specs.Fields.{Row}
use Rattle.fleet_census.specs.Amounts.{all_digests, sum_below}
use Rattle.fleet_census.specs.Fleets.{all_copies, all_pages, copies_of, weight}
use Rattle.fleet_census.specs.States.{AreBehind, AreOwn, IsBehind, Said}
use Rattle.fleet_census.specs.Gathers.{IsGathered}
use Rattle.fleet_census.specs.Merged.{IsAt, IsCounted}
use Rattle.fleet_census.specs.Tallies.{AreTallied, NoneBelow}
use Rattle.fleet_census.specs.Tournaments.{IsFirst, entry_at}
use Rattle.fleet_census.specs.declared.entry.Entry.{Entry}
use Rattle.fleet_census.specs.declared.entry.TheConstants.{AT_END, NO_FILE}
use Rattle.fleet_census.specs.declared.content.Holder.{Holder}
use Rattle.fleet_census.specs.declared.fault.FleetFault.{FleetFault}
use Rattle.fleet_census.specs.declared.fault.FleetFault.TheVariants.{OutOfMemory, TooManyDigests, TooManyPages, OtherSample, Read, Line}
use Rattle.fleet_census.specs.declared.tally.Tally.{Tally}
use Rattle.fleet_census.proofs.Counts.{class_stays, guest_stays, one_of_all, pair_stays, total_stays, weight_low, weight_stays, weight_step}
use Rattle.fleet_census.proofs.Lefts.{behind_low, behind_raised, behind_taken}
use Rattle.fleet_census.proofs.Sums.{sum_grows, sum_more}
use Rattle.fleet_census.proofs.Takes.{all_ended, first_own, later}

module _ (fleet : List (List Row)) (bound above : ℕ) (leaves : List Entry) (rows_left : List (Option Said)) (within : bound ≤ above) (behind : AreBehind fleet (λ file. bound) leaves rows_left)
    (few : length fleet ≤ 65536) (which : (file : ℕ) → file < length fleet → (entry_at leaves file ≡ AT_END) ⊎ ((entry_at leaves file).file ≡ file) × (above ≤ (entry_at leaves file).digest)) where
  raise_one : (file : ℕ) → (lt : file < length fleet) → IsBehind (get_or fleet file []) above (entry_at leaves file) (get_or rows_left file None) × ((digest : ℕ) → bound ≤ digest → digest < above → copies_of digest (get_or fleet file []) ≡ 0)
  raise_one file lt = behind_raised (get_or fleet file []) bound above (entry_at leaves file) file (get_or rows_left file None) (behind.each file lt) within (which file lt) (omega arith)

  -- all that is left comes later
  pub raise_all : AreBehind fleet (λ file. above) leaves rows_left
  raise_all = record { each = λ file lt. (raise_one file lt).0 }

  pub none_below : NoneBelow fleet bound above
  none_below = record {
    each = λ digest ge lt file. elim (cases_lt file (length fleet)) [
      | inl low ↦ (raise_one file low).1 digest ge lt
      | inr past ↦ let none : get_or fleet file [] ≡ [] = get_or_past fleet file [] past in rw none refl
    ];
  }

-- pages that are too many by some digest are too many by all
pub too_many_pages : (fleet : List (List Row)) (every at : ℕ) → at < 2 ^ 128 → 2 ^ 64 ≤ sum_below (weight every fleet) (at + 1) → 2 ^ 64 ≤ all_pages every fleet
unfolding all_digests
too_many_pages fleet every at low most =
    let e : at + 1 + (2 ^ 128 - (at + 1)) ≡ 2 ^ 128 = omega arith in
    let grows : sum_below (weight every fleet) (at + 1) ≤ sum_below (weight every fleet) (2 ^ 128) = rw e at (sum_grows (weight every fleet) (at + 1) (2 ^ 128 - (at + 1))) in
    omega (arith, grows, most)

-- the numbers where nothing more comes
pub tallied_stays : {A : Type 0} (fleet : List (List Row)) (every bound above : ℕ) (tally : Tally A) → bound ≤ above → NoneBelow fleet bound above → AreTallied fleet every bound tally → AreTallied fleet every above tally
tallied_stays fleet every bound above tally within none tallied = record {
  guests = λ file lt. tallied.guests file lt ∙ sym (guest_stays fleet bound above within none.each file);
  total = tallied.total ∙ sym (total_stays fleet bound above within none.each);
  classes = λ number lt. tallied.classes number lt ∙ sym (class_stays fleet bound above within none.each number);
  pairs = λ file other lt before within_row. tallied.pairs file other lt before within_row ∙ sym (pair_stays fleet bound above within none.each file other);
  weight_is = tallied.weight_is ∙ sym (weight_stays fleet bound above within none.each every);
  light = tallied.light;
}

module _ {A : Type 0} (fleet : List (List Row)) (every turn : ℕ) (leaves : List Entry) (rows_left : List (Option Said)) (tally : Tally A) (so_far : IsAt fleet every turn leaves rows_left tally)
    (first : Entry) (is : IsFirst leaves first) (own : AreOwn leaves) (same : length leaves ≡ length fleet) (few : length fleet ≤ 65536) where
  -- all is counted at the end
  pub at_last : first.file ≡ NO_FILE → AreTallied fleet every all_digests tally
  unfolding all_digests
  at_last none =
      let which : (file : ℕ) → file < length fleet → (entry_at leaves file ≡ AT_END) ⊎ ((entry_at leaves file).file ≡ file) × (2 ^ 128 ≤ (entry_at leaves file).digest) = λ file lt. inl (all_ended leaves first is own (omega arith) none file (omega arith)) in
      tallied_stays fleet every so_far.bound (2 ^ 128) tally so_far.within (none_below fleet so_far.bound (2 ^ 128) leaves rows_left so_far.within so_far.behind few which) so_far.tallied

  module _ (some : first.file ≢ NO_FILE) where
    here : (first.file < length leaves) × (entry_at leaves first.file ≡ first)
    here = first_own leaves first is own (omega arith) some

    pub low : so_far.bound ≤ first.digest
    low = behind_low (get_or fleet first.file []) so_far.bound first first.file (get_or rows_left first.file None) (rw here.1 at (so_far.behind.each first.file (omega (arith, here.0)))) refl (omega (arith, here.0))

    pub high : first.digest < 2 ^ 128
    high = elim (rw here.1 at (own.each first.file here.0)) [
      | inl ended ↦ absurd (some (ap (λ (entry : Entry). entry.file) ended))
      | inr line ↦ line.1
    ]

    which : (file : ℕ) → file < length fleet → (entry_at leaves file ≡ AT_END) ⊎ ((entry_at leaves file).file ≡ file) × (first.digest ≤ (entry_at leaves file).digest)
    which file lt = later leaves first is own (omega arith) first.digest file (omega arith) (omega (arith, here.0)) (omega arith)

    pub up_to : AreBehind fleet (λ file. first.digest) leaves rows_left
    up_to = raise_all fleet so_far.bound first.digest leaves rows_left low so_far.behind few which

    pub none_up_to : NoneBelow fleet so_far.bound first.digest
    none_up_to = none_below fleet so_far.bound first.digest leaves rows_left low so_far.behind few which

    pub one_copy : 1 ≤ all_copies fleet first.digest
    one_copy =
        let taken = behind_taken (get_or fleet first.file []) so_far.bound first.digest first first.file (get_or rows_left first.file None) (rw here.1 at (so_far.behind.each first.file (omega (arith, here.0)))) refl (omega (arith, here.0)) refl in
        omega (arith, taken.1, taken.3, one_of_all (copies_of first.digest) fleet first.file refl)

    -- one content more
    pub at_more : (after : List Entry) (now : List (Option Said)) (new : Tally A) → 1 ≤ every → AreBehind fleet (λ file. first.digest + 1) after now → AreTallied fleet every (first.digest + 1) new
        → IsAt fleet every (turn + 1) after now new
    at_more after now new some_every behind tallied = record {
      bound = first.digest + 1;
      within = omega (arith, high);
      behind = behind;
      tallied = tallied;
      enough =
          let e : first.digest + 1 ≡ suc first.digest = omega arith in
          let total : new.weight ≡ sum_below (weight every fleet) (suc first.digest) = rw e at tallied.weight_is in
          omega (arith, so_far.enough, so_far.tallied.weight_is, total, weight_step fleet every so_far.bound first.digest low none_up_to.each, weight_low fleet every first.digest some_every, one_copy);
    }

    -- a content is left, and there were as many turns as there may be pages
    pub at_full : 2 ^ 64 - 1 ≤ turn → 1 ≤ every → 2 ^ 64 ≤ all_pages every fleet
    at_full full some_every =
        let e : first.digest + 1 ≡ suc first.digest = omega arith in
        too_many_pages fleet every first.digest high (rw e (omega (arith, full, so_far.enough, so_far.tallied.weight_is, weight_step fleet every so_far.bound first.digest low none_up_to.each, weight_low fleet every first.digest some_every, one_copy)))

    -- a fault of the files that list the next content
    pub content_fault : {B : Type 0} (after : List Entry) (now : List (Option Said)) (holders : List Holder) (new : Tally B) (fault : FleetFault) → 1 ≤ every
        → IsGathered fleet first.digest after now holders (Err fault) → IsCounted fleet every new (Err fault)
    content_fault after now holders new OutOfMemory some_every gathered = tt
    content_fault after now holders new TooManyDigests some_every gathered = absurd gathered
    content_fault after now holders new (OtherSample number) some_every gathered = absurd gathered
    content_fault after now holders new (Read number error) some_every gathered = tt
    content_fault after now holders new (Line number fault) some_every gathered = tt
    content_fault after now holders new TooManyPages some_every gathered =
        let e : first.digest + 1 ≡ suc first.digest = omega arith in
        too_many_pages fleet every first.digest high (rw e (omega (arith, gathered, weight_low fleet every first.digest some_every, sum_more (weight every fleet) first.digest)))
