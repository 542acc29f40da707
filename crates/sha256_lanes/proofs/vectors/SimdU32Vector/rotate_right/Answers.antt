use Rattle.std.proofs.Common.{◌-◌, arith}
use Rattle.std.proofs.lemmas.Simd.{shifts_fit_splat}
use Rattle.sha256_lanes.proofs.Lanes.{rotates_right}
use Rattle.sha256_lanes.proofs.vectors.SimdU32Vector.rotate_right.Goals as goal

pub overflow_shr-result : goal.overflow_shr-result
overflow_shr-result g c = shifts_fit_splat 32 c.args.self g.row.N c.args.by c.requires.1

pub overflow_shl-result : goal.overflow_shl-result
overflow_shl-result g c = shifts_fit_splat 32 c.args.self g.row.N (32 - c.args.by) (omega (arith, c.requires))

pub returns : goal.returns
returns g c = rotates_right g.row.N c.args.by c.args.self c.requires.0 c.requires.1 c.fits-self.0
