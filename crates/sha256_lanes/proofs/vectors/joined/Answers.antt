use Rattle.sha256_lanes.proofs.Shuffles.{joins}
use Rattle.sha256_lanes.proofs.vectors.joined.Goals as goal

pub returns-clause-low : goal.returns-clause-low
returns-clause-low c = (joins c.args.low c.args.high c.fits-low.0 c.fits-high.0).0

pub returns-clause-high : goal.returns-clause-high
returns-clause-high c = (joins c.args.low c.args.high c.fits-low.0 c.fits-high.0).1
