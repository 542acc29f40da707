use Rattle.std.proofs.Common.{◌≤◌, length, ap, ◌∙◌, arith}
use Rattle.std.proofs.lemmas.List.{take_all}
use Rattle.lent_slots.specs.Slots.{held_by}
use Rattle.lent_slots.specs.Tags.{slots_of}
use Rattle.lent_slots.proofs.Tags.{slots_length}
use Rattle.lent_slots.proofs.clients.count_of.Goals as goal

pub returns : goal.returns
returns g c =
    let slots = slots_of c.args.core.now.pmap c.args.tags.now in
    let all : length slots ≤ c.loop-i.i = omega (arith, slots_length c.args.core.now.pmap c.args.tags.now, c.loop-i-test.false, c.len-i-end.ensures, c.loop-i.auto.i-end) in
    record { count = c.loop-i.invariant.so_far ∙ ap (held_by c.args.client) (take_all c.loop-i.i slots all) }
