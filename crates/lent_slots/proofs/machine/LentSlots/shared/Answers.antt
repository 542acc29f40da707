use Rattle.std.proofs.Common.{arith}
use Rattle.lent_slots.proofs.Tags.{slots_length}
use Rattle.lent_slots.proofs.machine.LentSlots.shared.Goals as goal

pub count_shared-requires-clause-few : goal.count_shared-requires-clause-few
count_shared-requires-clause-few g c κs within =
    let m = c.self.inside in
    omega (arith, slots_length m.core.pmap m.tags, c.self.invariant.0.few.0)
