use Rattle.std.proofs.Common.{sym, ◌∙◌, heap_items}
use Rattle.machine_frames.proofs.Places.{length-frames_of}
use Rattle.machine_frames.proofs.Frames.total.Goals as goal

pub returns : goal.returns
returns g c = rw (← c.self.view_is) (c.capacity.ensures ∙ sym (length-frames_of (heap_items c.self.inside.free) c.self.inside.pages))
