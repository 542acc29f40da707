use Rattle.std.proofs.Common.{◌≤◌, length, ap, ◌∙◌, arith}
use Rattle.std.specs.Prelude.{count_by}
use Rattle.std.proofs.lemmas.List.{take_all}
use Rattle.lent_slots.specs.Tags.{slots_of}
use Rattle.lent_slots.specs.Totals.{is_shared}
use Rattle.lent_slots.proofs.Tags.{slots_length}
use Rattle.lent_slots.proofs.count.count_shared.Goals as goal

pub returns-clause-count : goal.returns-clause-count
returns-clause-count g c =
    let slots = slots_of c.args.core.now.pmap c.args.tags.now in
    let all : length slots ≤ c.loop-i.i = omega (arith, slots_length c.args.core.now.pmap c.args.tags.now, c.loop-i-test.false, c.len-i-end.ensures, c.loop-i.auto.i-end) in
    c.loop-i.invariant.so_far ∙ ap (count_by (is_shared slots)) (take_all c.loop-i.i slots all)
