use Rattle.std.proofs.Common.{arith}
use Rattle.lent_slots.proofs.Tags.{slots_length}
use Rattle.lent_slots.proofs.Turns.{free_and_held}
use Rattle.lent_slots.proofs.machine.LentSlots.held.Goals as goal

pub overflow_sub-result : goal.overflow_sub-result
overflow_sub-result g c =
    let m = c.self.inside in
    omega (arith, free_and_held m.core m.tags m.first_free m.free m.counts c.self.invariant.0, slots_length m.core.pmap m.tags, rw (← c.self.view_is) at c.slot_count.ensures.count)

pub returns-clause-count : goal.returns-clause-count
returns-clause-count g c =
    let m = c.self.inside in
    rw (← c.self.view_is) (omega (arith, free_and_held m.core m.tags m.first_free m.free m.counts c.self.invariant.0, slots_length m.core.pmap m.tags, rw (← c.self.view_is) at c.slot_count.ensures.count))
