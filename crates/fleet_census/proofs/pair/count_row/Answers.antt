use Rattle.std.proofs.Common.{◌≡◌, ◌<◌, ◌≤◌, get_or, length, length-set, refl, ap, ◌∙◌, arith}
use Rattle.std.proofs.lemmas.List.{get_or_read_under}
use Rattle.std.specs.Prelude.{Option, Some}
use Rattle.fleet_census.specs.Holders.{no_holder}
use Rattle.fleet_census.specs.Pairs.{no_pair, pair_after, pair_with}
use Rattle.fleet_census.specs.declared.content.Holder.{Holder}
use Rattle.fleet_census.specs.declared.pair.FleetPair.{FleetPair}
use Rattle.fleet_census.proofs.Found.{counted_more, counted_past}
use Rattle.fleet_census.proofs.pair.count_row.Goals as goal
use Rattle.fleet_census.proofs.pair.count_row.Goals.{then-other-len, else-other-len}

pub loop-other-preserved : goal.loop-other-preserved
loop-other-preserved g c =
    let so_far = c.loop-other.invariant in
    let row = c.loop-other.row.items in
    let others = c.args.others.now in
    let k = c.loop-other.other-index in
    let other : Holder = get_or others k no_holder in
    let content = c.args.content.now in
    let holder = c.args.holder.now in
    let after : FleetPair → Option Holder → FleetPair = λ pair which. pair_after content pair (Some holder) which in
    elim c.if-other-len.branch [
      | then-other-len w ↦
          let low : other.file < length row = omega (arith, w.if-other-len.true, c.len.ensures, c.loop-other.row.ok.0) in
          let read : w.index_mut.result.now ≡ get_or row other.file no_pair = get_or_read_under row other.file (length row) w.index_mut.result.now no_pair w.index_mut.ensures.value low refl in
          let is : w.add.new.self ≡ after (get_or row other.file no_pair) (Some other) = w.add.ensures ∙ ap (λ (pair : FleetPair). pair_with content pair holder other) read in
          record {
            len = rw w.row-is (omega (arith, length-set row other.file w.add.new.self, so_far.len));
            counted = λ rising. rw w.row-is (counted_more no_pair after (λ pair. refl) c.args.row.now.items row others k rising c.loop-other-test.true (so_far.counted rising) w.add.new.self so_far.len (omega (arith, low, so_far.len)) is);
          }
      | else-other-len w ↦
          let past : length row ≤ other.file = omega (arith, w.if-other-len.false, c.len.ensures, c.loop-other.row.ok.0) in
          record {
            len = rw w.row-is so_far.len;
            counted = λ rising. rw w.row-is (counted_past no_pair after (λ pair. refl) c.args.row.now.items row others k rising c.loop-other-test.true (so_far.counted rising) (omega (arith, past, so_far.len)));
          }
    ]
