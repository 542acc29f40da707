use Rattle.std.proofs.Common.{◌≡◌, ◌++◌, take}
use Rattle.std.specs.Prelude.{filter}
use Rattle.guest_digests.specs.Samples.{is_kept}
use Rattle.guest_digests.proofs.hashed.push_kept.Given as goal

abbrev pub invariant-loop-digest : goal.invariant-loop-digest
invariant-loop-digest g l = l.digests.items ≡ l.initial.digests.items ++ filter (is_kept l.sampling) (take l.digest-index l.more)
