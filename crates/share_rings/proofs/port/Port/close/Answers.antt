use Rattle.std.proofs.Common.{refl}
use Rattle.share_rings.specs.Closing.{is_close}
use Rattle.page_model.specs.declared.request.Request.TheVariants.{Close}
use Rattle.share_rings.proofs.Fronts.{any_last, front_snoc}
use Rattle.share_rings.specs.Ends.{port_sent}
use Rattle.share_rings.proofs.port.Port.close.Goals as goal

pub invariant_of-result : goal.invariant_of-result
invariant_of-result g c = let p = c.args.self in let sent = c.in-Ok.ensures.ok.0 in record {
  shut = rw sent (any_last is_close (port_sent p) Close refl);
  once = rw (sent, front_snoc (port_sent p) Close) p.open;
  last = p.last;
}
