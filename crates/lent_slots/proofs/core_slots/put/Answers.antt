use Rattle.std.proofs.Common.{ℕ, rules, ap, sym, ◌∙◌, arith}
use Rattle.std.proofs.lemmas.Option.{none-some}
use Rattle.merge_core.specs.Shown.{Shown}
use Rattle.lent_slots.specs.Tags.{slots_of}
use Rattle.lent_slots.proofs.Lent.{IsPut, put_is, put_from, exists_put, framed, fits_restarted, room_restarted}
use Rattle.lent_slots.proofs.core_slots.put.Goals as goal

pub lend-requires-clause-guest : goal.lend-requires-clause-guest
lend-requires-clause-guest g c =
    let fits = fits_restarted (slots_of c.args.core.now.pmap c.args.tags.now) c.args.core.now c.restart_count.new.self c.restart_count.ensures c.requires.fits in
    omega (arith, fits.one)

pub lend-requires-clause-room : goal.lend-requires-clause-room
lend-requires-clause-room g c = omega (arith, ap (λ (x : Shown). x.entries) c.restart_count.ensures)

pub frame-requires : goal.frame-requires
frame-requires g c = (
  search rules,
  exists_put c.lend_keeps_bytes_law.ensures g.H.HashFunction.hash_of 0 c.args.ppn c.args.page.now (slots_of c.args.core.now.pmap c.args.tags.now) c.lend.result c.restart_count.new.self c.lend.new.self c.told-page
      (fits_restarted (slots_of c.args.core.now.pmap c.args.tags.now) c.args.core.now c.restart_count.new.self c.restart_count.ensures c.requires.fits)
      c.frames.ensures.pages c.frames-2.ensures.pages c.lend.ensures c.requires.free
      (room_restarted c.args.core.now c.restart_count.new.self c.restart_count.ensures c.requires.room),
)

pub returns : goal.returns
returns g c =
    let slots = slots_of c.args.core.now.pmap c.args.tags.now in
    let put : (client : ℕ) → IsPut client c.args.ppn c.in-Some.mpn c.args.page.now slots c.args.core.now c.lend.new.self = λ client.
    put_from client c.args.ppn c.in-Some.mpn c.args.page.now slots c.args.core.now c.restart_count.new.self c.lend.new.self c.restart_count.ensures
    (put_is c.lend_keeps_bytes_law.ensures g.H.HashFunction.hash_of client c.args.ppn c.args.page.now slots c.lend.result c.restart_count.new.self c.lend.new.self c.told-page
    (fits_restarted slots c.args.core.now c.restart_count.new.self c.restart_count.ensures c.requires.fits)
    c.frames.ensures.pages c.frames-2.ensures.pages c.lend.ensures c.requires.free
    (room_restarted c.args.core.now c.restart_count.new.self c.restart_count.ensures c.requires.room) c.in-Some.mpn (sym c.in-Some.ensures.pmap) c.in-Some.ensures.bytes) in
    record { fits = λ client. (put client).fits; within = (put 0).within; held = (put 0).held; frames = (put 0).frames; alone = (put 0).alone }

pub unreachable-requires : goal.unreachable-requires
unreachable-requires g c =
    let framed =
    framed c.lend_keeps_bytes_law.ensures g.H.HashFunction.hash_of 0 c.args.ppn c.args.page.now (slots_of c.args.core.now.pmap c.args.tags.now) c.lend.result c.restart_count.new.self c.lend.new.self c.told-page
    (fits_restarted (slots_of c.args.core.now.pmap c.args.tags.now) c.args.core.now c.restart_count.new.self c.restart_count.ensures c.requires.fits)
    c.frames.ensures.pages c.frames-2.ensures.pages c.lend.ensures c.requires.free
    (room_restarted c.args.core.now c.restart_count.new.self c.restart_count.ensures c.requires.room) in
    none-some framed.mpn (c.in-None.ensures.pmap ∙ framed.has)
