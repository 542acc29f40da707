use Rattle.std.proofs.Common.{refl}
use Rattle.sha256_lanes.proofs.functions.small_sigma1.Goals as goal

pub returns : goal.returns
returns g c j lt = rw (c.xor-2.ensures j lt, c.xor.ensures j lt, c.rotate_right.ensures j lt, c.rotate_right-2.ensures j lt, c.shift_right.ensures j lt) refl
