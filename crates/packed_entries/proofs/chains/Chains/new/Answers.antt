use Rattle.packed_entries.proofs.Filed.{none_filed}
use Rattle.packed_entries.proofs.chains.Chains.new.Goals as goal

pub returns : goal.returns
returns g c = rw c.in_ok-places.ensures (none_filed c.args.buckets c.args.capacity)
