use Rattle.std.proofs.Common.{◌∙◌, sym}
use Rattle.share_rings.proofs.Fronts.{last_passes_snoc}
use Rattle.share_rings.specs.Closing.{is_closed}
use Rattle.share_rings.specs.Ends.{port_got}
use Rattle.share_rings.proofs.port.Port.verdict.Goals as goal

pub invariant_of-self-2 : goal.invariant_of-self-2
invariant_of-self-2 g c = let p = c.args.self.now in record {
  «open» = p.open;
  room = p.room;
  last = rw c.in-Ok.ensures.ok.0 (c.is_closed-self.ensures ∙ sym (last_passes_snoc is_closed (port_got p) c.in-Ok.verdict));
}
