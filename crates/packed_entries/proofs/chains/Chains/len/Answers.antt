use Rattle.packed_entries.proofs.Filed.{entry_count_is}
use Rattle.packed_entries.proofs.chains.Chains.len.Goals as goal

pub returns : goal.returns
returns g c = rw (← c.self.view_is, entry_count_is c.self.inside.places) c.len.ensures
