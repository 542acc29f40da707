use Rattle.std.proofs.Common.{◌≡◌, ◌*◌, ◌++◌, take}
use Rattle.guest_digests.specs.Samples.{kept_digests}
use Rattle.guest_digests.proofs.hashed.push_digests.Given as goal

abbrev pub invariant-loop-n : goal.invariant-loop-n
invariant-loop-n g l = l.digests.items ≡ l.initial.digests.items ++ kept_digests l.sampling (take (4 * l.n) l.pages)
