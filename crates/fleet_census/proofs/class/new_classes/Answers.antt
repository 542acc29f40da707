use Rattle.std.proofs.Common.{arith, sym, ◌∙◌}
use Rattle.std.proofs.lemmas.List.FromFn.{map-range_with_len_more}
use Rattle.fleet_census.specs.Classes.{no_contents}
use Rattle.fleet_census.proofs.class.new_classes.Goals as goal

pub loop-number-preserved : goal.loop-number-preserved
loop-number-preserved g c =
    let so_far = c.loop-number.invariant in
    let number = c.loop-number.number in
    let more = map-range_with_len_more no_contents 0 number number (omega arith) in
    record {
      classes = c.push_reserved.ensures.items ∙ rw (so_far.classes, c.fewest.ensures, c.most.ensures) (sym more);
      len = omega (arith, so_far.len, c.push_reserved.ensures.len);
      room = omega (arith, so_far.room, c.push_reserved.ensures.capacity);
    }
