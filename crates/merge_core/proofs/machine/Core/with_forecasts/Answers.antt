use Rattle.std.proofs.Common.{ℕ, List, Option, None, refl, ◌∙◌}
use Rattle.std.proofs.lemmas.List.{length-replicate, length-map}
use Rattle.page_model.specs.Limits.{shapes}
use Rattle.machine_frames.specs.FrameMap.{no_frames}
use Rattle.merge_core.specs.Pmap.{guest_in}
use Rattle.merge_core.proofs.Empty.{empty_guests}
use Rattle.merge_core.specs.View.{pmap_of}
use Rattle.merge_core.proofs.machine.Core.with_forecasts.Goals as goal

pub returns : goal.returns
returns g c =
    let shape = c.args.shape.now in
    let guests = shapes shape.salts shape.pages in
    let held = c.in_ok-held.ensures in
    record {
      empty = rw (held.pmap, held.frames, length-replicate {A = Option (List ℕ)} shape.frames None, empty_guests (no_frames shape.frames) guests) refl;
      guests = length-map (pmap_of c.in_ok-held.held) (guest_in c.in_ok-held.held.frames) ∙ held.guests;
      frames = held.frames;
      table = held.table;
    }
