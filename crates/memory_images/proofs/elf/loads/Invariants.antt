use Rattle.std.proofs.Common.{◌≡◌}
use Rattle.memory_images.specs.Images.{loads}
use Rattle.memory_images.proofs.elf.loads.Given as goal

abbrev pub invariant-loop-n : goal.invariant-loop-n
invariant-loop-n g l = g.R.ReadAt.is_steady l.reader → l.segments.items ≡ loads (g.R.ReadAt.bytes l.reader) l.table l.n
