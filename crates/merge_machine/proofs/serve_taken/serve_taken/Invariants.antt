use Rattle.std.proofs.Common.{◌≡◌, ◌+◌, length, take}
use Rattle.page_model.specs.Replay.{state_after}
use Rattle.merge_core.specs.Shown.{state_of}
use Rattle.merge_machine.specs.Taking.{ServedSo}
use Rattle.merge_machine.proofs.serve_taken.serve_taken.Given as goal

abbrev pub invariant-loop-n : goal.invariant-loop-n
invariant-loop-n g l = record {
  served : ServedSo g.H.HashFunction.hash_of (state_of l.fn.core) l.entries l.n l.fn.ends.items l.ends.items;
  memory : state_of l.core ≡ state_after g.H.HashFunction.hash_of (state_of l.fn.core) (take l.n l.entries);
  counted : l.core.entries ≡ l.fn.core.entries + l.n;
  guests : length (state_of l.core).guests ≡ length (state_of l.fn.core).guests;
}
