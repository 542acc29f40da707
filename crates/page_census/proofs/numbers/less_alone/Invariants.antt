use Rattle.std.proofs.Common.{◌≡◌, ◌-◌, take}
use Rattle.page_census.specs.Numbers.{sum_alone}
use Rattle.page_census.proofs.numbers.less_alone.Given as goal

abbrev pub invariant-loop-guest : goal.invariant-loop-guest
invariant-loop-guest l = l.left ≡ l.reclaimed - sum_alone (take l.guest-index l.numbers)
