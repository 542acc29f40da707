use Rattle.std.proofs.Common.{◌-◌, length}
use Rattle.recent_fingerprints.proofs.Linked.{IsSearch}
use Rattle.recent_fingerprints.proofs.chain.Chains.has_other.Given as goal

abbrev pub invariant-loop-age : goal.invariant-loop-age
invariant-loop-age g l = IsSearch l.self.buckets.factor l.self.buckets.shift l.lives l.asked l.self.ring.items l.age

abbrev pub decreases-loop-age : goal.decreases-loop-age
decreases-loop-age g l = length l.self.ring.items - l.age
