use Rattle.sha256_lanes.proofs.Lanes.{has_most}
use Rattle.sha256_lanes.proofs.vectors.SimdU32Vector.majority.Goals as goal

pub returns : goal.returns
returns g c = has_most g.row.N c.args.self c.args.y c.args.z c.fits-self.0 c.fits-y.0 c.fits-z.0
