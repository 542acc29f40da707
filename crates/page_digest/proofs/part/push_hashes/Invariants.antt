use Rattle.std.proofs.Common.{◌≡◌, ◌+◌, ◌*◌, ◌≤◌, ◌++◌, take, vec_len, vec_capacity}
use Rattle.page_digest.specs.Many.{frame_hashes}
use Rattle.page_digest.proofs.part.push_hashes.Given as goal

abbrev pub invariant-loop-n : goal.invariant-loop-n
invariant-loop-n g l = record {
  items : l.hashes.items ≡ l.initial.hashes.items ++ frame_hashes g.H.HashFunction.hash_of l.frames (take (8 * l.n) l.pairs);
  len : vec_len l.hashes ≡ vec_len l.initial.hashes + 8 * l.n;
  capacity : vec_capacity l.initial.hashes ≤ vec_capacity l.hashes;
}
