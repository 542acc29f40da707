use Rattle.std.proofs.Common.{◌≡◌, ◌<◌, ◌≤◌, ℕ, drop, length, vec_len, get_or}
use Rattle.std.specs.Prelude.{nat_eq}
use Rattle.page_census.specs.Numbers.{copies, distinct}
use Rattle.page_census.proofs.tally.count_copies.Given as goal

abbrev pub invariant-loop-left : goal.invariant-loop-left
invariant-loop-left g l = record {
  within : l.left ≤ length l.classes;
  len : vec_len l.copies ≡ l.bound;
  right : (class : ℕ) → class < l.bound → get_or l.copies.items class 0 ≡ copies nat_eq class (drop l.left l.classes);
  different : l.distinct ≡ distinct nat_eq (drop l.left l.classes);
  few : l.distinct ≤ length (drop l.left l.classes);
}

abbrev pub decreases-loop-left : goal.decreases-loop-left
decreases-loop-left g l = l.left
