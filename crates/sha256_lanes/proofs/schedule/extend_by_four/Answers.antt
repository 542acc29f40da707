use Rattle.std.proofs.Common.{arith}
use Rattle.sha256_lanes.proofs.schedule.extend_by_four.Goals as goal

pub returns : goal.returns
returns g c j lt block so_far =
    let one = c.extend_by_one.ensures j lt block so_far in
    let two = c.extend_by_one-2.ensures j lt block one in
    let three = c.extend_by_one-3.ensures j lt block (λ k upto. two k (omega arith)) in
    λ k upto. c.extend_by_one-4.ensures j lt block (λ n before. three n (omega arith)) k (omega arith)
