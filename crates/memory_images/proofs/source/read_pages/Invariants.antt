use Rattle.std.proofs.Common.{◌≡◌, ◌+◌, ◌-◌, ◌≤◌, ◌++◌, length, take, drop}
use Rattle.memory_images.specs.Pages.{pages_of}
use Rattle.memory_images.proofs.source.read_pages.Given as goal

abbrev pub invariant-loop-segment : goal.invariant-loop-segment
invariant-loop-segment g l = record {
  done : l.done ≤ length l.into;
  len : length l.into ≡ length l.initial.into;
  left : l.skipped + (length l.into - l.done) ≤ length (pages_of (drop l.segment-index l.segments) (g.R.ReadAt.bytes l.reader));
  read : g.R.ReadAt.is_steady l.reader
      → take l.done l.into ++ take (length l.into - l.done) (drop l.skipped (pages_of (drop l.segment-index l.segments) (g.R.ReadAt.bytes l.reader)))
      ≡ take (length l.into) (drop l.first (pages_of l.segments (g.R.ReadAt.bytes l.reader)));
}
