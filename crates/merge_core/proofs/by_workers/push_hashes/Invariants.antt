use Rattle.std.proofs.Common.{◌≡◌, ◌≤◌, length, take, vec_len, vec_capacity}
use Rattle.merge_core.specs.Hashing.{page_hashes}
use Rattle.merge_core.specs.Kept.{OnlyNotes}
use Rattle.merge_core.specs.View.{guests_of}
use Rattle.merge_core.proofs.by_workers.push_hashes.Given as goal

abbrev pub invariant-loop-n : goal.invariant-loop-n
invariant-loop-n g l = record {
  kept : OnlyNotes g.H.HashFunction.hash_of l.fn.held l.held;
  hashes : l.hashes.items ≡ page_hashes g.H.HashFunction.hash_of (guests_of l.fn.held) (take l.n l.pages);
  len : vec_len l.hashes ≡ l.n;
  room : length l.pages ≤ vec_capacity l.hashes;
}
