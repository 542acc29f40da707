use Rattle.std.proofs.Common.{◌<◌, length, ap, arith}
use Rattle.merge_core.specs.Shown.{Shown}
use Rattle.lent_slots.specs.Tags.{slots_of}
use Rattle.lent_slots.proofs.SlotLists.{held_within}
use Rattle.lent_slots.proofs.Tags.{slots_length, slots_taken}
use Rattle.lent_slots.proofs.Lent.{fits_restarted}
use Rattle.lent_slots.proofs.Given.{take_is, take_from}
use Rattle.lent_slots.proofs.core_slots.take.Goals as goal

pub apply-requires-clause-guest : goal.apply-requires-clause-guest
apply-requires-clause-guest g c =
    let fits = fits_restarted (slots_of c.args.core.now.pmap c.args.tags.now) c.args.core.now c.restart_count.new.self c.restart_count.ensures c.requires.fits in
    omega (arith, fits.one)

pub apply-requires-clause-room : goal.apply-requires-clause-room
apply-requires-clause-room g c = omega (arith, ap (λ (x : Shown). x.entries) c.restart_count.ensures)

pub returns : goal.returns
returns g c =
    let slots = slots_of c.args.core.now.pmap c.args.tags.now in
    let p = take_from c.args.ppn c.args.held.frame slots c.args.core.now c.restart_count.new.self c.apply.new.self c.restart_count.ensures
    (take_is c.request_keeps_bytes_law.ensures g.H.HashFunction.hash_of c.args.ppn c.args.held slots c.apply.result c.restart_count.new.self c.apply.new.self
    (fits_restarted slots c.args.core.now c.restart_count.new.self c.restart_count.ensures c.requires.fits)
    c.frames.ensures.pages c.frames-2.ensures.pages c.apply.ensures c.requires.held) in
    let there : c.args.ppn < length c.args.tags.now = omega (arith, held_within slots c.args.ppn c.args.held c.requires.held, slots_length c.args.core.now.pmap c.args.tags.now) in
    record { fits = p.fits; slots = λ tag. slots_taken c.apply.new.self c.args.core.now.pmap c.args.tags.now c.args.ppn tag there p.fits; frames = p.frames }
