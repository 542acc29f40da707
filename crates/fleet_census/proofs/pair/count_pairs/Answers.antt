use Rattle.std.proofs.Common.{◌≡◌, ◌<◌, ◌≤◌, ℕ, List, [], get_or, length, take, sym, ap, ◌∙◌, arith}
use Rattle.std.specs.Prelude.{Some}
use Rattle.fleet_census.specs.Holders.{AreRising, found, no_holder}
use Rattle.fleet_census.specs.Pairs.{no_pair, pair_after, rows_of}
use Rattle.fleet_census.specs.declared.content.Holder.{Holder}
use Rattle.fleet_census.specs.declared.pair.FleetPair.{FleetPair}
use Rattle.fleet_census.proofs.Found.{rising_take}
use Rattle.fleet_census.proofs.Paired.{as_many_rows, lengths_stay, row_counted, row_of, row_past, rows_set}
use Rattle.fleet_census.proofs.pair.count_pairs.Goals as goal
use Rattle.fleet_census.proofs.pair.count_pairs.Goals.{then-holder-len, else-holder-len}

pub loop-n-preserved : goal.loop-n-preserved
loop-n-preserved g c =
    let so_far = c.loop-n.invariant in
    let vecs = c.loop-n.rows.items in
    let rows : List (List FleetPair) = rows_of vecs in
    let before : List (List FleetPair) = rows_of c.args.rows.now.items in
    let holders = c.args.holders.now in
    let k = c.loop-n.n in
    let holder : Holder = get_or holders k no_holder in
    let content = c.args.content.now in
    elim c.if-holder-len.branch [
      | then-holder-len w ↦
          let low : holder.file < length vecs = omega (arith, w.if-holder-len.true, c.len.ensures, c.loop-n.rows.ok.0) in
          let new = w.count_row.new.row in
          let here : get_or rows holder.file [] ≡ w.index_mut.result.now.items = row_of vecs holder.file w.index_mut.result.now low w.index_mut.ensures.value in
          let long : length new.items ≡ length (get_or rows holder.file []) = w.count_row.ensures.len ∙ ap length (sym here) in
          let counted : AreRising holders → (other : ℕ) → other < length (get_or rows holder.file []) → get_or new.items other no_pair
          ≡ pair_after content (get_or (get_or rows holder.file []) other no_pair) (Some holder) (found other (take k holders)) = λ rising other lt.
          rw here (w.count_row.ensures.counted (rising_take holders k rising) other (rw here at lt)) in
          record {
            lengths = rw w.rows-is (lengths_stay vecs holder.file new long ∙ so_far.lengths);
            counted = λ rising file other apart lt. rw w.rows-is (rw (rows_set vecs holder.file new)
                (row_counted content before rows holders k rising c.loop-n-test.true so_far.lengths (so_far.counted rising) new.items (omega (arith, low, as_many_rows vecs)) (counted rising) file other apart lt));
          }
      | else-holder-len w ↦
          let past : length vecs ≤ holder.file = omega (arith, w.if-holder-len.false, c.len.ensures, c.loop-n.rows.ok.0) in
          record {
            lengths = rw w.rows-is so_far.lengths;
            counted = λ rising file other apart lt. rw w.rows-is (row_past content before rows holders k rising c.loop-n-test.true so_far.lengths (so_far.counted rising) (omega (arith, past, as_many_rows vecs)) file other apart lt);
          }
    ]
