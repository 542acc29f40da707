use Rattle.std.proofs.Common.{arith}
use Rattle.core.specs.Mem.Slots.{slots_items}
use Rattle.page_model.specs.Pages.{blank}
use Rattle.machine_frames.proofs.FirstRooms.{rewritten}
use Rattle.machine_frames.proofs.rooms.Rooms.clear.Goals as goal

pub returns : goal.returns
unfolding blank
returns c =
    let i = c.self.inside in
    rw c.put.ensures.items (rewritten (slots_items i.memory.slots) i.len c.args.self.now c.self.view_is (omega (arith, c.self.invariant.0, i.memory.slots.ok.0)) c.args.number c.requires blank)
