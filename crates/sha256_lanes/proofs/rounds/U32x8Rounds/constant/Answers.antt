use Rattle.std.proofs.Common.{arith}
use Rattle.sha256_lanes.proofs.Lanes.{constant_lane}
use Rattle.sha256_lanes.proofs.rounds.U32x8Rounds.constant.Goals as goal

pub returns : goal.returns
returns c j lt = constant_lane 8 c.args.t j (omega arith) c.requires lt
