use Rattle.std.proofs.Common.{◌≡◌, ◌++◌, vec_len, vec_capacity, length}
use Rattle.std.specs.Vec.Iter.{into_iter_items}
use Rattle.merge_run.specs.Tasks.{AreDone, tasks_of}
use Rattle.merge_run.proofs.threads.join_all.Given as goal

abbrev pub invariant-loop-handle : goal.invariant-loop-handle
invariant-loop-handle g l = record {
  done : AreDone (tasks_of l.yielded) l.done.items;
  len : vec_len l.done ≡ length l.yielded;
  room : vec_capacity l.done ≡ vec_capacity l.initial.done;
  whole : l.yielded ++ into_iter_items l.handle-iterator ≡ l.fn.handles.items;
}
