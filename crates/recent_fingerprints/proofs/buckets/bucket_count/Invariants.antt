use Rattle.std.proofs.Common.{◌≡◌, ◌*◌, ◌^◌, ◌-◌, ◌<◌, ◌≤◌}
use Rattle.recent_fingerprints.proofs.buckets.bucket_count.Given as goal

abbrev pub invariant-loop-count : goal.invariant-loop-count
invariant-loop-count l = (2 ≤ l.count) × (l.shift < 64) × (l.count * 2 ^ l.shift ≡ 2 ^ 64) × (2 < l.count → l.count < 2 * l.places)

abbrev pub decreases-loop-count : goal.decreases-loop-count
decreases-loop-count l = l.places - l.count
