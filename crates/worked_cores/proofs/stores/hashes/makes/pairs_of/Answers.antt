use Rattle.std.proofs.Common.{arith}
use Rattle.std.proofs.lemmas.List.Elements.{All-push}
use Rattle.machine_frames.specs.FrameMap.{IsTaken}
use Rattle.worked_cores.proofs.stores.hashes.makes.pairs_of.Goals as goal

pub loop-n-preserved : goal.loop-n-preserved
loop-n-preserved g c = record {
  taken = rw c.push_reserved.ensures.items (All-push (λ pair. IsTaken c.args.two.now.frames pair.1) c.loop-n.pairs.items _ c.loop-n.invariant.taken c.frame_of-mpn.ensures);
  len = omega (arith, c.loop-n.invariant.len, c.push_reserved.ensures.len);
  room = omega (arith, c.loop-n.invariant.room, c.push_reserved.ensures.capacity);
}
