use Rattle.std.proofs.Common.{◌∙◌, sym}
use Rattle.share_rings.proofs.Fronts.{last_passes_snoc}
use Rattle.share_rings.specs.Closing.{is_closed}
use Rattle.share_rings.specs.Ends.{closed_got}
use Rattle.share_rings.proofs.closed_port.ClosedPort.verdict.Goals as goal

pub invariant_of-self-2 : goal.invariant_of-self-2
invariant_of-self-2 g c = let p = c.args.self.now in record {
  shut = p.shut;
  once = p.once;
  last = rw c.in-Ok.ensures.ok.0 (c.is_closed-self.ensures ∙ sym (last_passes_snoc is_closed (closed_got p) c.in-Ok.verdict));
}
