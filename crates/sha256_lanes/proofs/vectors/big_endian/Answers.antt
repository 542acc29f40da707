use Rattle.sha256_lanes.proofs.Shuffles.{words_of}
use Rattle.sha256_lanes.proofs.vectors.big_endian.Goals as goal

pub returns : goal.returns
returns c = words_of c.args.bytes c.fits-bytes.0 c.fits-bytes.1
