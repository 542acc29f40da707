use Rattle.std.proofs.Common.{◌≡◌, ◌≤◌, cond, take}
use Rattle.std.specs.Prelude.{count_by, sum_by}
use Rattle.page_census.specs.Numbers.{is_between}
use Rattle.page_census.proofs.table.count_class.Given as goal

abbrev pub invariant-loop-count : goal.invariant-loop-count
invariant-loop-count l = record {
  contents : l.contents ≡ count_by (is_between l.from l.to) (take l.count-index l.copies);
  fits : l.contents ≤ l.count-index;
  pages : l.pages ≡ sum_by (λ n. cond (is_between l.from l.to n) n 0) (take l.count-index l.copies);
}
