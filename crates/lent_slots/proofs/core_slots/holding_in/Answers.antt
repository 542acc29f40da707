use Rattle.std.proofs.Common.{sym, rules, arith}
use Rattle.std.proofs.lemmas.Option.{get_or_from_slice_get}
use Rattle.lent_slots.proofs.Tags.{slots_length, held_none, held_some}
use Rattle.lent_slots.proofs.core_slots.holding_in.Goals as goal

pub frame-requires : goal.frame-requires
frame-requires g c =
    (search rules, c.requires.fits.pages c.args.ppn (omega (arith, c.requires.within, slots_length c.args.core.now.pmap c.args.tags.now)))

pub returns-in-None : goal.returns-in-None
returns-in-None g c = held_none c.args.core.now.pmap c.args.tags.now c.args.ppn c.requires.within c.in-None.ensures.pmap

pub returns-in-Some : goal.returns-in-Some
returns-in-Some g c =
    held_some c.args.core.now.pmap c.args.tags.now c.args.ppn c.get.result c.in-Some.frame c.requires.within
    (sym (get_or_from_slice_get c.args.tags.now c.args.ppn c.get.result 0 c.get.ensures)) c.in-Some.ensures.pmap
