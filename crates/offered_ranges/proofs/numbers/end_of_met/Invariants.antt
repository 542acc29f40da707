use Rattle.std.proofs.Common.{◌≡◌, false, take}
use Rattle.std.specs.List.{list_any}
use Rattle.offered_ranges.specs.Numbers.{meets}
use Rattle.offered_ranges.proofs.numbers.end_of_met.Given as goal

abbrev pub invariant-loop-window : goal.invariant-loop-window
invariant-loop-window l = list_any (meets l.from l.count) (take l.window-index l.taken) ≡ false
