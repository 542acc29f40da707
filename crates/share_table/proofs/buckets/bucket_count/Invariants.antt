use Rattle.std.proofs.Common.{◌≤◌, ◌-◌}
use Rattle.share_table.specs.Buckets.{IsPowerOfTwo}
use Rattle.share_table.proofs.buckets.bucket_count.Given as goal

abbrev pub invariant-loop-buckets : goal.invariant-loop-buckets
invariant-loop-buckets l = record { power : IsPowerOfTwo l.buckets; some : 1 ≤ l.buckets; most : l.buckets ≤ l.capacity }

abbrev pub decreases-loop-buckets : goal.decreases-loop-buckets
decreases-loop-buckets l = l.capacity - l.buckets
