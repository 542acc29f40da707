use Rattle.std.proofs.Common.{◌≡◌, map, take}
use Rattle.std.specs.Prelude.{filter}
use Rattle.live_memory.specs.Choices.{is_chosen}
use Rattle.live_memory.specs.Ranges.{AreWhole}
use Rattle.live_memory.proofs.choice.chosen_segments.Given as goal

abbrev pub invariant-loop-mapping : goal.invariant-loop-mapping
invariant-loop-mapping g l = record {
  chosen : l.segments.items ≡ map (λ mapping. mapping.segment) (filter (is_chosen l.choice l.offers) (take l.mapping-index l.mappings));
  whole : AreWhole l.segments.items;
}
