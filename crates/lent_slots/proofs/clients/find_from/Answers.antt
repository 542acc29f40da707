use Rattle.std.proofs.Common.{◌≤◌, length, sym, ◌∙◌, arith}
use Rattle.std.specs.List.{position_from}
use Rattle.std.proofs.lemmas.List.{at_drop_all}
use Rattle.lent_slots.specs.Slots.{is_of}
use Rattle.lent_slots.specs.Tags.{slots_of}
use Rattle.lent_slots.proofs.Tags.{slots_length}
use Rattle.lent_slots.proofs.clients.find_from.Goals as goal

pub returns : goal.returns
returns g c =
    let slots = slots_of c.args.core.now.pmap c.args.tags.now in
    let all : length slots ≤ c.loop-i.i = omega (arith, slots_length c.args.core.now.pmap c.args.tags.now, c.loop-i-test.false, c.len-i-end.ensures, c.loop-i.auto.i-end) in
    sym (at_drop_all (position_from (is_of c.args.client) c.loop-i.i) slots c.loop-i.i all) ∙ c.loop-i.invariant.left
