use Rattle.std.proofs.Common.{refl}
use Rattle.machine_frames.proofs.InBlocks.{length-pages_in}
use Rattle.machine_frames.proofs.blocks.Blocks.is_full.Goals as goal

pub returns : goal.returns
returns g c = rw (← c.self.view_is, length-pages_in) refl
