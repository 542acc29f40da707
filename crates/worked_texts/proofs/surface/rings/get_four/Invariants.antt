use Rattle.std.proofs.Common.{◌≡◌}
use Rattle.share_rings.specs.Ends.{closed_name}
use Rattle.worked_texts.proofs.surface.rings.get_four.Given as goal

abbrev pub invariant-loop : goal.invariant-loop
invariant-loop g l = closed_name l.port ≡ closed_name l.initial.port
