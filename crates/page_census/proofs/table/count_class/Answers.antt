use Rattle.std.proofs.Common.{ℕ, ◌≤◌, Bool, true, false, cond, arith}
use Rattle.std.proofs.lemmas.List.Sums.{sum_by_more_le_part}
use Rattle.page_census.specs.Numbers.{is_between}
use Rattle.page_census.proofs.table.count_class.Goals as goal

part : (b : Bool) (n : ℕ) → cond b n 0 ≤ n
part true n = omega arith
part false n = omega arith

pub overflow_add-pages : goal.overflow_add-pages
overflow_add-pages c =
    let most = sum_by_more_le_part (λ (n : ℕ). cond (is_between c.args.from c.args.to n) n 0) (λ (n : ℕ). n) c.args.copies.now c.loop-count.count-index 0 c.loop-count-test.true (λ (n : ℕ). part (is_between c.args.from c.args.to n) n) in
    omega (arith, most, c.loop-count.invariant.pages, c.requires.all)
