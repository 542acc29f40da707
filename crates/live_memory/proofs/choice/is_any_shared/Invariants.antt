use Rattle.std.proofs.Common.{◌≡◌, drop}
use Rattle.std.specs.List.{list_any}
use Rattle.live_memory.specs.Choices.{has_frames}
use Rattle.live_memory.proofs.choice.is_any_shared.Given as goal

abbrev pub invariant-loop-mapping : goal.invariant-loop-mapping
invariant-loop-mapping l = list_any has_frames (drop l.mapping-index l.mappings) ≡ list_any has_frames l.mappings
