use Rattle.std.proofs.Common.{◌≡◌, ◌++◌, take}
use Rattle.guest_digests.specs.Samples.{kept_digests}
use Rattle.guest_digests.proofs.hashed.push_each.Given as goal

abbrev pub invariant-loop-page : goal.invariant-loop-page
invariant-loop-page g l = l.digests.items ≡ l.initial.digests.items ++ kept_digests l.sampling (take l.page-index l.pages)
