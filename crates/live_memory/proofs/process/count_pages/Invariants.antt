use Rattle.std.proofs.Common.{◌≡◌, ◌-◌, ◌^◌, min, take}
use Rattle.memory_images.specs.Pages.{count_of}
use Rattle.live_memory.proofs.process.count_pages.Given as goal

abbrev pub invariant-loop-segment : goal.invariant-loop-segment
invariant-loop-segment l = l.count ≡ min (count_of (take l.segment-index l.segments)) (2 ^ 64 - 1)
