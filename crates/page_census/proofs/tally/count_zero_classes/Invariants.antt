use Rattle.std.proofs.Common.{◌≡◌, ◌≤◌}
use Rattle.page_census.specs.Counted.{count_below, is_zero_class}
use Rattle.page_census.proofs.tally.count_zero_classes.Given as goal

abbrev pub invariant-loop-class : goal.invariant-loop-class
invariant-loop-class l = (l.count ≡ count_below (is_zero_class l.copies l.marks) l.class) × (l.count ≤ l.class)
