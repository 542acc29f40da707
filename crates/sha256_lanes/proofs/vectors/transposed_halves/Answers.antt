use Rattle.sha256_lanes.proofs.Shuffles.{transposes_lower, transposes_upper}
use Rattle.sha256_lanes.proofs.vectors.transposed_halves.Goals as goal

pub returns-clause-low : goal.returns-clause-low
returns-clause-low c = transposes_lower c.args.a c.args.b c.args.c c.args.d c.fits-a.0 c.fits-b.0

pub returns-clause-high : goal.returns-clause-high
returns-clause-high c = transposes_upper c.args.a c.args.b c.args.c c.args.d c.fits-a.0 c.fits-b.0
