use Rattle.std.proofs.Common.{◌<◌, length, arith}
use Rattle.std.proofs.lemmas.List.{length-map}
use Rattle.merge_core.specs.Pmap.{guest_in}
use Rattle.merge_core.specs.View.{guest_of, pmap_in}
use Rattle.merge_core.proofs.Texts.{pages_read}
use Rattle.merge_core.proofs.machine.Core.pages.Goals as goal

pub returns : goal.returns
returns g c =
    let held = c.self.inside.held in
    let w = rw (← c.self.view_is) at c.requires in
    let within : c.args.guest < length held.guests.items = omega (arith, w, length-map held.guests.items guest_of, length-map (pmap_in held.guests.items) (guest_in held.frames)) in
    let read = rw (← c.index.ensures) at (pages_read held.frames held.guests.items c.args.guest c.index.result.now within) in
    rw (← c.self.view_is, c.len.ensures) read
