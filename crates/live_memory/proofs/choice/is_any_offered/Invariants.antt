use Rattle.std.proofs.Common.{◌≡◌, drop}
use Rattle.std.specs.List.{list_any}
use Rattle.live_memory.proofs.choice.is_any_offered.Given as goal

abbrev pub invariant-loop-mapping : goal.invariant-loop-mapping
invariant-loop-mapping l = list_any (λ mapping. mapping.is_offered) (drop l.mapping-index l.mappings) ≡ list_any (λ mapping. mapping.is_offered) l.mappings
