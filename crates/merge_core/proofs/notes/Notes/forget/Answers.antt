use Rattle.merge_core.proofs.NotedFrames.{noted}
use Rattle.merge_core.proofs.notes.Notes.forget.Goals as goal

pub returns : goal.returns
returns g c = record { notes = rw (← c.self.view_is) (noted c.self.inside.frames c.self.inside.notes.items c.set_note.new.notes.items c.args.mpn _ c.self.invariant.0 (rw (← c.self.view_is) at c.requires.mpn) c.set_note.ensures.notes c.set_note.ensures.size) }
