use Rattle.std.proofs.Common.{◌≡◌, ◌≤◌, take}
use Rattle.memory_images.specs.Pages.{count_of}
use Rattle.memory_images.proofs.open.count_pages.Given as goal

abbrev pub invariant-loop-segment : goal.invariant-loop-segment
invariant-loop-segment l = record {
  count : l.count ≡ count_of (take l.segment-index l.segments);
  few : l.count ≤ 4294967295;
}
