use Rattle.std.proofs.Common.{◌≡◌, ◌++◌, ◌∷◌, ◌∙◌, ap, append_assoc, arith, length, length-append, List, ℕ}
use Rattle.std.proofs.lemmas.Grind.{common_steps}
use Rattle.std.specs.Vec.Iter.{into_iter_items}
use Rattle.page_digest.specs.Parts.{hashes_of_parts, parts_of}
use Rattle.page_digest.proofs.Hashed.{more_joined, room_left}
use Rattle.page_digest.proofs.workers.join_all.Goals as goal

pub loop-handle-preserved : goal.loop-handle-preserved
loop-handle-preserved g c =
    let so_far = c.loop-handle.invariant in
    record {
      items = more_joined g.H.HashFunction.hash_of c.loop-handle.yielded c.in-Some.handle _ _ _ _ so_far.items c.join-part.ensures (c.append.ensures.items ∙ ap (λ (more : List ℕ). c.loop-handle.hashes.items ++ more) c.deref.ensures.value);
      room = omega (arith, so_far.room, c.append.ensures.capacity);
      whole = grind (arith, common_steps, c.in-Some.ensures.steps, append_assoc);
    }

pub append-requires : goal.append-requires
append-requires g c =
    let hash = g.H.HashFunction.hash_of in
    let so_far = c.loop-handle.invariant in
    let rest = into_iter_items c.next.new.self in
    let all : c.loop-handle.yielded ++ c.in-Some.handle ∷ rest ≡ c.args.handles.items = grind (arith, common_steps, so_far.whole, c.in-Some.ensures.steps) in
    let left = room_left hash c.loop-handle.yielded rest c.args.handles.items c.in-Some.handle all in
    let owed : List ℕ = hashes_of_parts hash (parts_of c.loop-handle.yielded) in
    let before = ap length so_far.items ∙ length-append c.args.hashes.now.items owed in
    let now = ap length c.join-part.ensures in
    omega (arith, left, before, now, c.deref.ensures.len, c.loop-handle.hashes.ok.0, c.args.hashes.now.ok.0, c.join-part.result.ok.0, so_far.room, c.requires)
