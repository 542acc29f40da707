use Rattle.std.proofs.Common.{◌≡◌, ◌*◌, ◌≤◌, All, take, vec_len, vec_capacity}
use Rattle.page_digest.specs.Many.{frame_hashes}
use Rattle.page_digest.specs.Parts.{IsReady, hashes_of_parts, task_parts}
use Rattle.page_digest.proofs.many.new_tasks.Given as goal

abbrev pub invariant-loop-n : goal.invariant-loop-n
invariant-loop-n g l = record {
  ready : All IsReady l.tasks.items;
  parts : hashes_of_parts g.H.HashFunction.hash_of (task_parts l.tasks.items) ≡ frame_hashes g.H.HashFunction.hash_of l.frames (take (l.size * l.n) l.pairs);
  len : vec_len l.tasks ≡ l.n;
  room : l.count ≤ vec_capacity l.tasks;
}
