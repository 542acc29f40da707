use Rattle.std.proofs.Common.{None, length, replicate, ap, sym, ◌∙◌, arith}
use Rattle.std.proofs.lemmas.List.{length-replicate}
use Rattle.machine_frames.specs.FrameMap.{no_frames}
use Rattle.lent_slots.specs.Tags.{slots_of}
use Rattle.lent_slots.proofs.Lends.{same_view}
use Rattle.lent_slots.proofs.Noted.{noted_new}
use Rattle.lent_slots.proofs.Tags.{slots_new}
use Rattle.lent_slots.proofs.Turns.{turned_new}
use Rattle.lent_slots.proofs.machine.LentSlots.new.Goals as goal

pub invariant_of-result : goal.invariant_of-result
invariant_of-result g c =
    let free = slots_new c.in_ok-core.core (replicate c.args.count 0) c.args.count (length-replicate c.args.count 0) c.in_ok-core.ensures.fits in
    rw (c.in_ok-counts.ensures, c.in_ok-noted.ensures, c.in_ok-tags.ensures) (
      turned_new c.in_ok-core.core c.total.result c.args.count c.in_ok-core.ensures.fits
          (c.in_ok-core.ensures.frames ∙ c.requires.frames.2 ∙ ap no_frames (sym c.total.ensures))
          (omega (arith, c.requires.frames.0, c.total.ensures)) (omega (arith, c.requires.frames.1, c.total.ensures)) (omega (arith, c.requires.slots.1)),
      rw free (noted_new c.args.count c.args.clients),
    )

pub returns : goal.returns
returns g c =
    let free = slots_new c.in_ok-core.core (replicate c.args.count 0) c.args.count (length-replicate c.args.count 0) c.in_ok-core.ensures.fits in
    rw c.in_ok-tags.ensures (
    same_view (slots_of c.in_ok-core.core.pmap (replicate c.args.count 0)) (replicate c.args.count None) c.in_ok-core.core.frames (no_frames (length c.args.frames))
    free (c.in_ok-core.ensures.frames ∙ c.requires.frames.2)
    )
