use Rattle.std.proofs.Common.{◌<◌, length, Some, sym, arith}
use Rattle.std.proofs.lemmas.Option.{get_or_from_slice_get}
use Rattle.lent_slots.specs.declared.holding.Holding.{Holding}
use Rattle.lent_slots.specs.Slots.{lent_slots}
use Rattle.lent_slots.specs.Tags.{slots_of}
use Rattle.lent_slots.proofs.SlotLists.{got_within, set_same}
use Rattle.lent_slots.proofs.Tags.{slots_length, slots_lent, slots_stay, slots_tagged}
use Rattle.lent_slots.proofs.Lent.{IsPut}
use Rattle.lent_slots.proofs.Given.{IsTakenOut}
use Rattle.lent_slots.proofs.Refused.{undone}
use Rattle.lent_slots.proofs.core_slots.hold.Goals as goal

pub get-client-requires : goal.get-client-requires
get-client-requires g c =
    omega (arith, got_within (slots_of c.args.core.now.pmap c.args.tags.now) c.args.ppn _ c.requires.free, slots_length c.args.core.now.pmap c.args.tags.now)

pub take-requires-clause-fits : goal.take-requires-clause-fits
take-requires-clause-fits g c κs within =
    let tags = c.args.tags.now in
    let there : c.args.ppn < length tags = omega (arith, got_within (slots_of c.args.core.now.pmap tags) c.args.ppn _ c.requires.free, slots_length c.args.core.now.pmap tags) in
    let read = sym (get_or_from_slice_get tags c.args.ppn c.get-client.result 0 c.get-client.ensures) in
    let mid = slots_tagged c.put-frame.new.core c.args.core.now.pmap tags c.get-client.result c.args.ppn c.put-frame.result there read (c.put-frame.ensures.fits c.get-client.result) in
    rw mid (c.put-frame.ensures.fits c.get-client.result)

pub take-requires-clause-held : goal.take-requires-clause-held
take-requires-clause-held g c κs lives =
    let tags = c.args.tags.now in
    let slots = slots_of c.args.core.now.pmap tags in
    let within = got_within slots c.args.ppn _ c.requires.free in
    let there : c.args.ppn < length tags = omega (arith, within, slots_length c.args.core.now.pmap tags) in
    let read = sym (get_or_from_slice_get tags c.args.ppn c.get-client.result 0 c.get-client.ensures) in
    let mid = slots_tagged c.put-frame.new.core c.args.core.now.pmap tags c.get-client.result c.args.ppn c.put-frame.result there read (c.put-frame.ensures.fits c.get-client.result) in
    let held : Holding = record { client = c.get-client.result; frame = c.put-frame.result } in
    rw mid (set_same slots c.args.ppn (Some held) within)

pub returns-then-is_used_up : goal.returns-then-is_used_up
returns-then-is_used_up g c =
    let tags = c.args.tags.now in
    let slots = slots_of c.args.core.now.pmap tags in
    let there : c.args.ppn < length tags = omega (arith, got_within slots c.args.ppn _ c.requires.free, slots_length c.args.core.now.pmap tags) in
    let client = c.get-client.result in
    let read = sym (get_or_from_slice_get tags c.args.ppn client 0 c.get-client.ensures) in
    let mid = slots_tagged c.put-frame.new.core c.args.core.now.pmap tags client c.args.ppn c.put-frame.result there read (c.put-frame.ensures.fits client) in
    let p : IsPut client c.args.ppn c.put-frame.result c.args.page.now slots c.args.core.now c.put-frame.new.core = record {
      fits = c.put-frame.ensures.fits client;
      within = c.put-frame.ensures.within;
      held = c.put-frame.ensures.held;
      frames = c.put-frame.ensures.frames;
      alone = c.put-frame.ensures.alone;
    } in
    let out : IsTakenOut c.args.ppn c.put-frame.result (lent_slots client c.args.ppn c.put-frame.result slots) c.put-frame.new.core c.take.new.core = record {
      fits = rw mid at c.take.ensures.fits;
      frames = rw mid at c.take.ensures.frames;
    } in
    let u = undone client c.args.ppn c.put-frame.result c.args.page.now slots c.args.core.now c.put-frame.new.core c.take.new.core c.requires.free c.requires.room p (c.is_used_up.ensures.up c.if-is_used_up.true) out in
    record {
      slots = λ _. slots_stay c.take.new.core c.args.core.now.pmap tags u.fits;
      frames = u.frames;
      fits = λ _. u.fits;
      spent = u.spent;
      within = tt;
      held = tt;
      spare = u.spare;
    }

pub returns-clause-slots : goal.returns-clause-slots
returns-clause-slots g c =
    let tags = c.args.tags.now in
    let there : c.args.ppn < length tags = omega (arith, got_within (slots_of c.args.core.now.pmap tags) c.args.ppn _ c.requires.free, slots_length c.args.core.now.pmap tags) in
    λ client. slots_lent c.put-frame.new.core c.args.core.now.pmap tags client c.args.ppn c.put-frame.result there (c.put-frame.ensures.fits client)
