use Rattle.std.proofs.Common.{sym}
use Rattle.machine_frames.specs.InBlocks.{block_of}
use Rattle.machine_frames.proofs.InBlocks.{length-pages_in}
use Rattle.machine_frames.proofs.blocks.Blocks.len.Goals as goal

pub returns-clause-value : goal.returns-clause-value
returns-clause-value g c = rw (← c.self.view_is) (sym (length-pages_in (block_of c.self.inside.keys.items c.self.inside.blocks) c.self.inside.len))
