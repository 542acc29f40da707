use Rattle.sha256_lanes.proofs.Shuffles.{transposes}
use Rattle.sha256_lanes.proofs.vectors.transposed.Goals as goal

pub returns : goal.returns
returns c = transposes c.args.a c.args.b c.args.c c.args.d c.fits-a.0 c.fits-b.0 c.fits-c.0 c.fits-d.0
