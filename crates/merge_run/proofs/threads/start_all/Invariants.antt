use Rattle.std.proofs.Common.{◌≡◌, ◌++◌, vec_len, vec_capacity, length}
use Rattle.std.specs.Vec.Iter.{into_iter_items}
use Rattle.merge_run.specs.Tasks.{tasks_of}
use Rattle.merge_run.proofs.threads.start_all.Given as goal

abbrev pub invariant-loop-task : goal.invariant-loop-task
invariant-loop-task g l = record {
  started : tasks_of l.handles.items ≡ l.yielded;
  len : vec_len l.handles ≡ length l.yielded;
  room : vec_capacity l.handles ≡ vec_capacity l.initial.handles;
  whole : l.yielded ++ into_iter_items l.task-iterator ≡ l.fn.tasks.items;
}
