use Rattle.std.proofs.Common.{◌≡◌, take, get_or}
use Rattle.std.specs.Prelude.{nat_lt, count_by}
use Rattle.page_census.proofs.tally.count_shared.Given as goal

abbrev pub invariant-loop-class : goal.invariant-loop-class
invariant-loop-class l = l.count ≡ count_by (λ class. nat_lt 1 (get_or l.copies class 0)) (take l.class-index l.classes)
