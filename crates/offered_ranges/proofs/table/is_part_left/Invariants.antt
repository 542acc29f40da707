use Rattle.std.proofs.Common.{◌≡◌, false, take}
use Rattle.std.specs.List.{list_any}
use Rattle.offered_ranges.specs.Tables.{is_of}
use Rattle.offered_ranges.proofs.table.is_part_left.Given as goal

abbrev pub invariant-loop-range : goal.invariant-loop-range
invariant-loop-range l = list_any (is_of l.window) (take l.range-index l.ranges) ≡ false
