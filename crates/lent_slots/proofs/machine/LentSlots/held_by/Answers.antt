use Rattle.page_model.specs.declared.limits.TheConstants.{MAX_PAGES}
use Rattle.lent_slots.specs.Tags.{slots_of}
use Rattle.lent_slots.proofs.Noted.{room_noted}
use Rattle.lent_slots.proofs.machine.LentSlots.held_by.Goals as goal

pub returns-clause-few : goal.returns-clause-few
returns-clause-few g c =
    let m = c.self.inside in
    rw c.count_at.ensures (room_noted (slots_of m.core.pmap m.tags) m.clients.items c.args.client MAX_PAGES c.self.invariant.1 c.self.invariant.0.few.0)
