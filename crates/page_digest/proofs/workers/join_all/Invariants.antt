use Rattle.std.proofs.Common.{◌≡◌, ◌++◌, ◌≤◌, vec_capacity}
use Rattle.std.specs.Vec.Iter.{into_iter_items}
use Rattle.page_digest.specs.Parts.{hashes_of_parts, parts_of}
use Rattle.page_digest.proofs.workers.join_all.Given as goal

abbrev pub invariant-loop-handle : goal.invariant-loop-handle
invariant-loop-handle g l = record {
  items : l.hashes.items ≡ l.initial.hashes.items ++ hashes_of_parts g.H.HashFunction.hash_of (parts_of l.yielded);
  room : vec_capacity l.initial.hashes ≤ vec_capacity l.hashes;
  whole : l.yielded ++ into_iter_items l.handle-iterator ≡ l.fn.handles.items;
}
