use Rattle.std.proofs.Common.{◌≡◌, ◌+◌, ◌≤◌, length}
use Rattle.live_memory.specs.Maps.{mappings_from}
use Rattle.live_memory.specs.Ranges.{HaveWhole}
use Rattle.live_memory.proofs.Walked.{with_front}
use Rattle.live_memory.proofs.maps.writable_mappings.Given as goal

abbrev pub invariant-loop-rest : goal.invariant-loop-rest
invariant-loop-rest g l = record {
  read : with_front l.mappings.items (mappings_from l.line l.rest) ≡ mappings_from 1 l.maps;
  whole : HaveWhole l.mappings.items;
  count : l.line + length l.rest ≤ length l.maps + 1;
}

abbrev pub decreases-loop-rest : goal.decreases-loop-rest
decreases-loop-rest g l = length l.rest
