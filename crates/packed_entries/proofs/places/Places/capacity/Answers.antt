use Rattle.std.proofs.Common.{sym}
use Rattle.packed_entries.proofs.Reached.{length_entries}
use Rattle.packed_entries.proofs.places.Places.capacity.Goals as goal

pub returns : goal.returns
returns g c = rw (← c.self.view_is) (sym (length_entries c.self.inside.packed.items c.self.inside.capacity c.self.invariant.1.fits))
