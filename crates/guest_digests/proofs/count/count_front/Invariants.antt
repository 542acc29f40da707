use Rattle.std.proofs.Common.{◌≡◌, take}
use Rattle.std.specs.Prelude.{replicate, slice_index}
use Rattle.guest_digests.proofs.count.count_front.Given as goal

abbrev pub invariant-loop-count : goal.invariant-loop-count
invariant-loop-count l = take l.count l.digests ≡ replicate l.count (slice_index l.digests 0)
