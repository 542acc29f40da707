-- What is counted, with one content more.
use Rattle.std.proofs.Common.{◌≡◌, ℕ, suc, ◌+◌, ◌<◌, ◌≤◌, ◌^◌, List, [], ◌++◌, length, take, get_or, ap, ◌∙◌, arith}
use Rattle.std.proofs.lemmas.List.{take-append-le, take_all}
use Rattle.digest_text.specs.Fields.{Row}
use Rattle.fleet_census.specs.Amounts.{sum_below}
use Rattle.fleet_census.specs.Classes.{class_after, class_at}
use Rattle.fleet_census.specs.Fleets.{all_copies, content_of, holder_of, weight}
use Rattle.fleet_census.specs.Holders.{found}
use Rattle.fleet_census.specs.Pairs.{pair_after, pair_at, row_lengths, rows_of}
use Rattle.fleet_census.specs.Steps.{guest_after, guest_at, total_with}
use Rattle.fleet_census.specs.Tallies.{AreTallied, NoneBelow, weight_of}
use Rattle.fleet_census.specs.declared.content.Content.{Content}
use Rattle.fleet_census.specs.declared.content.Holder.{Holder}
use Rattle.fleet_census.specs.declared.tally.Tally.{Tally}
use Rattle.fleet_census.proofs.Counts.{class_step, copies_weighed, guest_step, pair_step, total_step, weight_step}
use Rattle.fleet_census.proofs.Paired.{row_long}

module _ {A : Type 0} (fleet : List (List Row)) (every from at : ℕ) (within : from ≤ at) (some : 1 ≤ every) (old : Tally A) (so_far : AreTallied fleet every from old)
    (none : NoneBelow fleet from at) (content : Content) (is : content ≡ content_of fleet at) where
  weighed : old.weight + weight_of every content ≡ sum_below (weight every fleet) (suc at)
  weighed = ap (λ (w : ℕ). w + weight_of every content) so_far.weight_is ∙ rw is (weight_step fleet every from at within none.each)

  pub too_heavy : 2 ^ 64 ≤ old.weight + weight_of every content → 2 ^ 64 ≤ sum_below (weight every fleet) (at + 1)
  too_heavy most = let e : at + 1 ≡ suc at = omega arith in rw e (omega (arith, weighed, most))

  module _ (new : Tally A) (holders : List Holder) (known : (file : ℕ) → file < length fleet → found file holders ≡ holder_of file at (get_or fleet file []))
      (weight_now : new.weight ≡ old.weight + weight_of every content) (light : new.weight < 2 ^ 64)
      (guests_now : (file : ℕ) → file < length fleet → guest_at new.guests.items file ≡ guest_after content (guest_at old.guests.items file) (found file holders))
      (total_now : new.total ≡ total_with content old.total)
      (classes_now : (number : ℕ) → number < 65 → class_at new.classes.items number ≡ class_after content number (class_at old.classes.items number))
      (lengths : row_lengths (rows_of new.pairs.items) ≡ row_lengths (rows_of old.pairs.items))
      (pairs_now : (file other : ℕ) → other < file → other < length (get_or (rows_of old.pairs.items) file [])
      → pair_at (rows_of new.pairs.items) file other ≡ pair_after content (pair_at (rows_of old.pairs.items) file other) (found file holders) (found other holders)) where
    low : sum_below (all_copies fleet) (suc at) < 2 ^ 64
    low = omega (arith, copies_weighed fleet every (suc at) some, weighed, weight_now, light)

    pub tallied : AreTallied fleet every (at + 1) new
    tallied =
        let e : at + 1 ≡ suc at = omega arith in
        rw e (record {
          guests = λ file lt. guests_now file lt ∙ rw (is, so_far.guests file lt, known file lt) (guest_step fleet from at within none.each low file);
          total = total_now ∙ rw (is, so_far.total) (total_step fleet from at within none.each low);
          classes = λ number lt. classes_now number lt ∙ rw (is, so_far.classes number lt) (class_step fleet from at within none.each low number);
          pairs = λ file other lt before within_row.
              let within_old : other < length (get_or (rows_of old.pairs.items) file []) = omega (arith, within_row, row_long (rows_of new.pairs.items) (rows_of old.pairs.items) file lengths) in
              pairs_now file other before within_old
              ∙ rw (is, so_far.pairs file other lt before within_old, known file lt, known other (omega arith)) (pair_step fleet from at within none.each low file other before);
          weight_is = weight_now ∙ weighed;
          light = light;
        })

-- a list that was put in place of one as long
pub kept_items : {X : Type 0} (n : ℕ) (items rest : List X) → length items ≡ n → take n (items ++ rest) ≡ items
kept_items n items rest e = let h : n ≤ length items = omega arith in rw take-append-le (take_all n items (omega arith))
