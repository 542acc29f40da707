use Rattle.std.proofs.Common.{rules}
use Rattle.std.proofs.lemmas.List.Elements.{All-push}
use Rattle.share_rings.specs.Ends.{port_name, end_name}
use Rattle.merge_machine.specs.Fresh.{IsFreshEnd, IsFreshPort}
use Rattle.merge_machine.proofs.Lists.{pushed_alike}
use Rattle.merge_machine.proofs.machine.new_pairs.Goals as goal

pub loop-guest-preserved : goal.loop-guest-preserved
loop-guest-preserved g c =
    let v = c.loop-guest.invariant in let made = c.in_ok-port.ensures in let p = c.in_ok-port.port in let e = c.in_ok-port.end in
    let port : IsFreshPort c.args.ring p = record { sent = made.port.0; got = made.port.1; known = made.port.2; capacity_is = made.capacity.0 } in
    let fresh : IsFreshEnd c.args.ring e = record { taken = made.end.0; given = made.end.1; known = made.end.2; free = made.end.3; capacity_is = made.capacity.1 } in (
      rw (c.push_reserved.ensures.items, c.push_reserved-in-loop-guest.ensures.items) (pushed_alike port_name end_name c.loop-guest.ports.items c.loop-guest.ends.items p e v.0 made.pair),
      rw c.push_reserved-in-loop-guest.ensures.items (All-push (IsFreshPort c.args.ring) c.loop-guest.ports.items p v.1 port),
      rw c.push_reserved.ensures.items (All-push (IsFreshEnd c.args.ring) c.loop-guest.ends.items e v.2 fresh),
      search rules,
      search rules,
      search rules,
      search rules,
    )
