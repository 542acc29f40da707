use Rattle.std.proofs.Common.{◌<◌, ◌∙◌, length, arith}
use Rattle.share_rings.specs.Ends.{closed_view, end_view, closed_name, end_name}
use Rattle.merge_machine.proofs.Lists.{map_put, maps_length}
use Rattle.merge_machine.proofs.Meets.{still_pair, met_more, known_more, free_more}
use Rattle.merge_machine.proofs.meet_each.meet_each.Goals as goal

pub meet-requires : goal.meet-requires
meet-requires g c =
    let v = c.loop-i.invariant in let same = maps_length end_view end_view _ _ v.ends in
    let l : c.loop-i.i < length c.loop-i.ends.items = omega (arith, c.args.ends.now.ok.0, same) in
    still_pair c.args.ports.now.items c.loop-i.ports.items c.args.ends.now.items c.loop-i.ends.items c.loop-i.i _ _ c.requires v.ports v.ends l c.index_mut.ensures.value c.index_mut-in-loop-i.ensures.value

pub loop-i-preserved : goal.loop-i-preserved
loop-i-preserved g c =
    let v = c.loop-i.invariant in let same = maps_length end_view end_view _ _ v.ends in let sames = maps_length closed_view closed_view _ _ v.ports in
    let pairs = maps_length closed_name end_name _ _ c.requires in
    let l : c.loop-i.i < length c.loop-i.ends.items = omega (arith, c.args.ends.now.ok.0, same) in
    let lp : c.loop-i.i < length c.loop-i.ports.items = omega (arith, l, same, sames, pairs) in
    let p = c.index_mut.result.now in let e = c.index_mut-in-loop-i.result.now in let pis = c.index_mut.ensures.value in let eis = c.index_mut-in-loop-i.ensures.value in record {
      ports = map_put closed_view c.loop-i.ports.items c.loop-i.i p c.meet.new.port pis c.meet.ensures.port ∙ v.ports;
      ends = map_put end_view c.loop-i.ends.items c.loop-i.i e c.meet.new.end eis c.meet.ensures.end ∙ v.ends;
      known = known_more c.loop-i.ports.items c.loop-i.ends.items c.loop-i.i c.meet.new.port c.meet.new.end lp l (c.meet.ensures.known_requests, c.meet.ensures.known_verdicts) v.known;
      free = free_more c.args.ends.now.items c.loop-i.ends.items c.loop-i.i e c.meet.new.end same eis c.meet.ensures.free v.free;
      met = met_more c.args.ports.now.items c.loop-i.ports.items c.args.ends.now.items c.loop-i.ends.items c.loop-i.i p e c.meet.result c.requires v.ports v.ends l pis eis c.meet.ensures.meeting c.meet.ensures.last v.met;
    }

pub returns-clause-known : goal.returns-clause-known
returns-clause-known g c = let same = maps_length end_view end_view _ _ c.loop-i.invariant.ends in
    λ i p e below. c.loop-i.invariant.known i p e (omega (arith, same, c.args.ends.now.ok.0))

pub returns-clause-met : goal.returns-clause-met
returns-clause-met g c = λ i p e below. c.loop-i.invariant.met i p e (omega (arith, c.args.ends.now.ok.0))
