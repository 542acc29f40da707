use Rattle.std.proofs.Common.{◌≡◌, ◌+◌, arith}
use Rattle.std.proofs.Math.ListN.{get_or}
use Rattle.window_tables.proofs.PinCounts.{change_more, differs_at, same_at}
use Rattle.window_tables.proofs.pins.counts.add_one.Goals as goal

pub overflow_add-count : goal.overflow_add-count
overflow_add-count c =
    let is : get_or c.loop-count.counts c.loop-count.count-index 0 ≡ get_or c.args.counts.now c.loop-count.count-index 0 =
    same_at (λ n. n + 1) c.args.counts.now c.loop-count.counts c.loop-count.count-index 0 c.loop-count-test.true c.loop-count.invariant in
    omega (arith, is, c.loop-count.auto.counts, differs_at 65535 c.args.counts.now c.loop-count.count-index c.loop-count-test.true c.requires)

pub loop-count-preserved : goal.loop-count-preserved
loop-count-preserved c =
    change_more (λ n. n + 1) c.args.counts.now c.loop-count.counts c.loop-count.count-index c.loop-count-test.true c.loop-count.invariant
