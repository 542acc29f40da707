use Rattle.std.proofs.Common.{arith}
use Rattle.std.proofs.lemmas.List.{get_or_default}
use Rattle.machine_frames.proofs.block.bytes_fit.Goals as goal

pub returns : goal.returns
returns c = λ k d h. let f = c.type_inv.bytes k in rw (get_or_default c.args.bytes.now k d 0 h) (omega (arith, f.fits))
