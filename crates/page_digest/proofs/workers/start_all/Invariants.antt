use Rattle.std.proofs.Common.{◌≡◌, ◌++◌, vec_len, vec_capacity, length}
use Rattle.std.specs.Vec.Iter.{into_iter_items}
use Rattle.page_digest.specs.Parts.{parts_of, task_parts}
use Rattle.page_digest.proofs.workers.start_all.Given as goal

abbrev pub invariant-loop-task : goal.invariant-loop-task
invariant-loop-task g l = record {
  started : parts_of l.handles.items ≡ task_parts l.yielded;
  len : vec_len l.handles ≡ length l.yielded;
  room : vec_capacity l.handles ≡ vec_capacity l.initial.handles;
  whole : l.yielded ++ into_iter_items l.task-iterator ≡ l.fn.tasks.items;
}
