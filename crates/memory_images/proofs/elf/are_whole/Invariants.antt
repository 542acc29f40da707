use Rattle.std.proofs.Common.{◌≡◌, true, take}
use Rattle.memory_images.specs.Images.{are_whole}
use Rattle.memory_images.proofs.elf.are_whole.Given as goal

abbrev pub invariant-loop-segment : goal.invariant-loop-segment
invariant-loop-segment l = are_whole l.size (take l.segment-index l.segments) ≡ true
