use Rattle.std.proofs.Common.{◌≤◌, None, length, sym, arith}
use Rattle.std.proofs.lemmas.List.{get_or_past}
use Rattle.lent_slots.specs.Tags.{slots_of}
use Rattle.lent_slots.proofs.Tags.{slots_length}
use Rattle.lent_slots.proofs.machine.LentSlots.holding.Goals as goal

pub returns-then-ppn-len : goal.returns-then-ppn-len
returns-then-ppn-len g c =
    let m = c.self.inside in
    let slots = slots_of m.core.pmap m.tags in
    let past : length slots ≤ c.args.ppn = omega (arith, slots_length m.core.pmap m.tags, c.if-ppn-len.true, c.len.ensures) in
    rw (← c.self.view_is) (sym (get_or_past slots c.args.ppn None past))
