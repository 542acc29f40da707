use Rattle.std.proofs.Common.{◌≡◌, ◌+◌, ◌++◌, map, take}
use Rattle.std.proofs.Math.ListN.{drop}
use Rattle.window_tables.proofs.pins.counts.add_one.Given as goal

abbrev pub invariant-loop-count : goal.invariant-loop-count
invariant-loop-count l = l.counts ≡ map (λ n. n + 1) (take l.count-index l.fn.counts) ++ drop l.count-index l.fn.counts
