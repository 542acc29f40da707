use Rattle.std.proofs.Common.{◌≡◌, ◌∙◌, ◌-◌, ◌<◌, ◌++◌, length, take, ap, sym, arith}
use Rattle.std.proofs.Math.ListN.{drop}
use Rattle.std.proofs.lemmas.List.{length-take-le}
use Rattle.offered_ranges.proofs.Removed.{without_last}
use Rattle.offered_ranges.proofs.table.remove.Goals as goal

pub returns-clause-ranges : goal.returns-clause-ranges
returns-clause-ranges c =
    let long : length (take c.args.count.now c.args.ranges.now) ≡ c.args.count.now = length-take-le c.args.count.now c.args.ranges.now c.requires.within in
    let there : c.args.place < length (take c.args.count.now c.args.ranges.now) = omega (arith, long, c.requires.place) in
    ap (λ n. take (n - 1) (c.move_last.new.ranges ++ drop c.args.count.now c.args.ranges.now)) (sym long)
    ∙ without_last (take c.args.count.now c.args.ranges.now) c.move_last.new.ranges (drop c.args.count.now c.args.ranges.now) c.args.place there c.move_last.ensures
