use Rattle.std.proofs.Common.{arith}
use Rattle.std.proofs.Math.Nat.{mul-le-mul_right}
use Rattle.host_sessions.proofs.host.total_frames.Goals as goal

pub overflow_mul-result : goal.overflow_mul-result
overflow_mul-result c = omega (arith, mul-le-mul_right c.args.each c.requires.machines, c.requires.each)
