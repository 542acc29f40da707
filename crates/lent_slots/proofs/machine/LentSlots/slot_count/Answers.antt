use Rattle.std.proofs.Common.{arith}
use Rattle.lent_slots.proofs.Tags.{slots_length}
use Rattle.lent_slots.proofs.machine.LentSlots.slot_count.Goals as goal

pub returns-clause-count : goal.returns-clause-count
returns-clause-count g c =
    let m = c.self.inside in
    rw (← c.self.view_is) (omega (arith, slots_length m.core.pmap m.tags, c.len.ensures))

pub returns-clause-few : goal.returns-clause-few
returns-clause-few g c =
    let m = c.self.inside in
    omega (arith, slots_length m.core.pmap m.tags, c.self.invariant.0.few.0, c.len.ensures)
