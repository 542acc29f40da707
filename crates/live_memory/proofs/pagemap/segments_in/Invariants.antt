use Rattle.std.proofs.Common.{◌≡◌, take}
use Rattle.live_memory.specs.PageMaps.{numbers, numbers_in}
use Rattle.live_memory.specs.Ranges.{AreWhole}
use Rattle.live_memory.proofs.pagemap.segments_in.Given as goal

abbrev pub invariant-loop-range : goal.invariant-loop-range
invariant-loop-range g l = record {
  whole : AreWhole l.segments.items;
  pages : g.P.ReadAt.is_steady l.pagemap → numbers l.segments.items ≡ numbers_in l.state (g.P.ReadAt.bytes l.pagemap) (take l.range-index l.ranges);
}
