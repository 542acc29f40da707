use Rattle.std.proofs.Common.{◌≡◌, ◌+◌, ◌*◌, ◌/◌, ◌%◌, ◌≤◌, ap, arith, drop, length, min, take}
use Rattle.std.proofs.lemmas.Grind.{div_ceil_times}
use Rattle.std.proofs.lemmas.List.{take_all}
use Rattle.std.proofs.lemmas.List.Elements.{All-drop, All-take, All-push}
use Rattle.machine_frames.specs.FrameMap.{IsTaken}
use Rattle.page_digest.specs.Many.{AreTaken, frame_hashes}
use Rattle.page_digest.specs.Parts.{IsReady}
use Rattle.page_digest.proofs.Hashed.{more_tasks}
use Rattle.page_digest.proofs.many.new_tasks.Goals as goal

pub loop-n-preserved : goal.loop-n-preserved
loop-n-preserved g c =
    let so_far = c.loop-n.invariant in
    let pairs = c.args.pairs.now in
    let frames = c.args.frames.now in
    let size = c.args.size in
    let at = size * c.loop-n.n in
    let here = c.part_at.ensures in
    let next : size * (c.loop-n.n + 1) ≡ at + size = omega arith in
    let taken : AreTaken frames (take size (drop at pairs)) = All-take (λ pair. IsTaken frames pair.1) size (drop at pairs) (All-drop (λ pair. IsTaken frames pair.1) at pairs c.requires.taken) in
    record {
      ready = rw c.push_reserved.ensures.items (All-push IsReady c.loop-n.tasks.items _ so_far.ready (record { taken = rw here taken; empty = c.in_ok-hashes.ensures.items; room = c.in_ok-hashes.ensures.capacity }));
      parts = rw (c.push_reserved.ensures.items, next) (more_tasks g.H.HashFunction.hash_of frames pairs at size c.loop-n.tasks.items _ so_far.parts (ap (frame_hashes g.H.HashFunction.hash_of frames) here));
      len = omega (arith, so_far.len, c.push_reserved.ensures.len);
      room = omega (arith, so_far.room, c.push_reserved.ensures.capacity);
    }

pub returns-clause-parts : goal.returns-clause-parts
returns-clause-parts g c =
    let pairs = c.args.pairs.now in
    let size = c.args.size in
    let n = c.loop-n.n in
    let count : n ≡ length pairs / size + min 1 (length pairs % size) = omega (arith, c.loop-n-test.false, c.loop-n.auto.n-end, c.div_ceil-count.ensures) in
    let covered : length pairs ≤ n * size = rw count (div_ceil_times (length pairs) size c.requires.size).0 in
    let whole : take (size * n) pairs ≡ pairs = take_all (size * n) pairs (omega (arith, covered)) in
    rw whole at c.loop-n.invariant.parts
