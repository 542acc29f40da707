use Rattle.std.proofs.Common.{◌≡◌, length}
use Rattle.std.specs.List.{slice_split}
use Rattle.live_memory.specs.Details.{is_offered}
use Rattle.live_memory.specs.Maps.{is_feed}
use Rattle.live_memory.proofs.details.is_offered.Given as goal

abbrev pub invariant-loop-line : goal.invariant-loop-line
invariant-loop-line l = is_offered (slice_split is_feed l.rest) ≡ is_offered (slice_split is_feed l.details)

abbrev pub decreases-loop-line : goal.decreases-loop-line
decreases-loop-line l = length l.rest
