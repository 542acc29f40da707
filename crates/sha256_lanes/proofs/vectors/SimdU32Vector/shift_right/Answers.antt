use Rattle.std.proofs.lemmas.Simd.{shifts_fit_splat}
use Rattle.sha256_lanes.proofs.Lanes.{shifts_right}
use Rattle.sha256_lanes.proofs.vectors.SimdU32Vector.shift_right.Goals as goal

pub overflow_shr-result : goal.overflow_shr-result
overflow_shr-result g c = shifts_fit_splat 32 c.args.self g.row.N c.args.by c.requires

pub returns : goal.returns
returns g c = shifts_right g.row.N c.args.by c.args.self c.fits-self.0
