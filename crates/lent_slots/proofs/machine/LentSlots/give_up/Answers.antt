use Rattle.std.proofs.Common.{◌≡◌, ◌+◌, Some, refl, arith}
use Rattle.lent_slots.specs.Slots.{holding}
use Rattle.lent_slots.specs.Tags.{slots_of}
use Rattle.lent_slots.proofs.SlotLists.{held_within}
use Rattle.lent_slots.proofs.Noted.{noted_less, some_noted}
use Rattle.lent_slots.proofs.Tags.{slots_length}
use Rattle.lent_slots.proofs.Turns.{free_and_held, begins_few, turned_given}
use Rattle.lent_slots.proofs.machine.LentSlots.give_up.Goals as goal

pub note_less-requires-clause-some : goal.note_less-requires-clause-some
note_less-requires-clause-some g c less =
    let m = c.self.inside in
    let slots = slots_of m.core.pmap m.tags in
    let held : holding slots c.args.ppn ≡ Some c.args.held = rw (← c.self.view_is) at c.requires in
    some_noted slots m.clients.items c.args.ppn c.args.held c.self.invariant.1 held less

pub note_less-requires-clause-slot : goal.note_less-requires-clause-slot
note_less-requires-clause-slot g c =
    let m = c.self.inside in
    let slots = slots_of m.core.pmap m.tags in
    let held : holding slots c.args.ppn ≡ Some c.args.held = rw (← c.self.view_is) at c.requires in
    omega (arith, held_within slots c.args.ppn c.args.held held, c.self.invariant.0.few.0)

pub link_to-link-requires : goal.link_to-link-requires
link_to-link-requires g c some =
    let m = c.self.inside in
    begins_few m.core m.tags m.first_free m.free m.counts c.self.invariant.0 some

pub set-requires : goal.set-requires
set-requires g c =
    let m = c.self.inside in
    let slots = slots_of m.core.pmap m.tags in
    let held : holding slots c.args.ppn ≡ Some c.args.held = rw (← c.self.view_is) at c.requires in
    omega (arith, held_within slots c.args.ppn c.args.held held, slots_length m.core.pmap m.tags)

pub overflow_add-self : goal.overflow_add-self
overflow_add-self g c =
    let m = c.self.inside in
    omega (arith, free_and_held m.core m.tags m.first_free m.free m.counts c.self.invariant.0, slots_length m.core.pmap m.tags, c.self.invariant.0.few.0)

pub invariant_of-self : goal.invariant_of-self
invariant_of-self g c =
    let m = c.self.inside in
    let slots = slots_of m.core.pmap m.tags in
    let held : holding slots c.args.ppn ≡ Some c.args.held = rw (← c.self.view_is) at c.requires in
    let now = c.take.ensures.slots c.link_to-link.result in
    rw (c.set.ensures, c.drop_sharer-sharers.ensures.counts, c.note_less.ensures) (
      turned_given m.core c.take.new.core m.tags m.first_free m.free (m.free + 1) c.args.ppn c.link_to-link.result c.args.held m.counts c.self.invariant.0 held c.link_to-link.ensures refl now
          c.take.ensures.fits c.take.ensures.frames,
      rw now (noted_less slots m.clients.items c.args.ppn c.args.held c.self.invariant.1 held),
    )
