use Rattle.std.proofs.Common.{◌∙◌, ◌+◌, ◌≤◌, min, length, sym, subst, arith}
use Rattle.std.proofs.Math.ListN.{get_or}
use Rattle.std.proofs.lemmas.Bool.{eqb-false}
use Rattle.offered_ranges.proofs.Found.{no_range}
use Rattle.offered_ranges.proofs.Outside.{BoundsSo, bounds_more, bounds_whole}
use Rattle.offered_ranges.proofs.bound.bounds.Goals as goal

pub loop-range-preserved : goal.loop-range-preserved
loop-range-preserved c =
    let r = get_or c.args.ranges.now c.loop-range.range-index no_range in
    subst (λ k. BoundsSo c.args.ranges.now (c.loop-range.range-index + 1) (record { begin = k; end = c.max.result })) (sym c.min.ensures)
    (subst (λ k. BoundsSo c.args.ranges.now (c.loop-range.range-index + 1) (record { begin = min c.loop-range.found.begin r.begin; end = k })) (sym c.max.ensures)
    (bounds_more c.args.ranges.now c.loop-range.range-index c.loop-range.found c.loop-range-test.true c.loop-range.invariant))

pub returns : goal.returns
returns c =
    let some : 1 ≤ length c.args.ranges.now = omega (arith, eqb-false (length c.args.ranges.now) 0 (sym c.is_empty.ensures ∙ c.if-is_empty.false)) in
    bounds_whole c.args.ranges.now c.loop-range.range-index c.loop-range.found c.loop-range-test.false some c.loop-range.invariant
