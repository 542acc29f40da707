use Rattle.std.proofs.Common.{◌≡◌, ◌++◌, vec_len, vec_capacity, length}
use Rattle.std.specs.Vec.Iter.{into_iter_items}
use Rattle.merge_run.specs.Tasks.{ports_of, lists_of}
use Rattle.merge_run.proofs.task_list.into_lists.Given as goal

abbrev pub invariant-loop-task : goal.invariant-loop-task
invariant-loop-task g l = record {
  ports : l.ports.items ≡ ports_of l.yielded;
  lists : l.verdicts.items ≡ lists_of l.yielded;
  ports_len : vec_len l.ports ≡ length l.yielded;
  lists_len : vec_len l.verdicts ≡ length l.yielded;
  ports_room : vec_capacity l.ports ≡ vec_capacity l.initial.ports;
  lists_room : vec_capacity l.verdicts ≡ vec_capacity l.initial.verdicts;
  whole : l.yielded ++ into_iter_items l.task-iterator ≡ l.fn.done.items;
}
