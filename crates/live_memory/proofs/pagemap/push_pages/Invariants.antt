use Rattle.std.proofs.Common.{◌≡◌, ◌-◌, ◌≤◌, ◌++◌}
use Rattle.std.specs.Prelude.{filter}
use Rattle.live_memory.specs.PageMaps.{is_page_in, numbers, pages_from}
use Rattle.live_memory.specs.Ranges.{AreWhole}
use Rattle.live_memory.proofs.pagemap.push_pages.Given as goal

abbrev pub invariant-loop-done : goal.invariant-loop-done
invariant-loop-done g l = record {
  whole : AreWhole l.segments.items;
  few : l.done ≤ l.count;
  pushed : g.P.ReadAt.is_steady l.pagemap
      → numbers l.segments.items ≡ numbers l.fn.segments.items ++ filter (is_page_in l.state (g.P.ReadAt.bytes l.pagemap)) (pages_from l.first l.done);
}

abbrev pub decreases-loop-done : goal.decreases-loop-done
decreases-loop-done g l = l.count - l.done
