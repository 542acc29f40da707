use Rattle.std.proofs.Common.{◌≡◌, ◌++◌, length}
use Rattle.std.specs.Prelude.{filter}
use Rattle.live_memory.specs.PageMaps.{is_page_in, numbers, pages_from}
use Rattle.live_memory.specs.Ranges.{AreWhole}
use Rattle.live_memory.proofs.pagemap.push_run.Given as goal

abbrev pub invariant-loop-i : goal.invariant-loop-i
invariant-loop-i g l = record {
  whole : AreWhole l.segments.items;
  pushed : g.P.ReadAt.is_steady l.pagemap
      → numbers l.segments.items ≡ numbers l.fn.segments.items ++ filter (is_page_in l.state (g.P.ReadAt.bytes l.pagemap)) (pages_from l.first l.i);
}
