use Rattle.std.proofs.Common.{◌<◌, ◌-◌, ◌≤◌, length, take}
use Rattle.std.specs.Prelude.{All, slice_index}
use Rattle.guest_digests.specs.Counted.{AreCounted}
use Rattle.guest_digests.proofs.count.count_digests.Given as goal

abbrev pub invariant-loop-done : goal.invariant-loop-done
invariant-loop-done g l = record {
  within : l.done ≤ length l.digests;
  counted : AreCounted (take l.done l.digests) l.lines.items;
  below : l.done < length l.digests → All (λ line. line.digest < slice_index l.digests l.done) l.lines.items;
}

abbrev pub decreases-loop-done : goal.decreases-loop-done
decreases-loop-done g l = length l.digests - l.done
