use Rattle.std.proofs.Common.{refl}
use Rattle.recent_fingerprints.specs.Chains.{bucket_of}
use Rattle.recent_fingerprints.proofs.buckets.Buckets.of.Goals as goal

pub returns : goal.returns
unfolding bucket_of
returns c = refl
