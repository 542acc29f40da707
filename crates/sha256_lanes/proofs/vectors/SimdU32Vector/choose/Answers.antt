use Rattle.sha256_lanes.proofs.Lanes.{chooses}
use Rattle.sha256_lanes.proofs.vectors.SimdU32Vector.choose.Goals as goal

pub returns : goal.returns
returns g c = chooses g.row.N c.args.self c.args.y c.args.z c.fits-self.0 c.fits-y.0 c.fits-z.0 c.fits-self.1 c.fits-y.1 c.fits-z.1
