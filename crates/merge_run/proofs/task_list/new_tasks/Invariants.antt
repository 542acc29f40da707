use Rattle.std.proofs.Common.{◌≡◌, ◌≤◌, ◌++◌, false, vec_len, vec_capacity, length}
use Rattle.std.specs.Prelude.{All}
use Rattle.std.specs.Vec.Iter.{into_iter_items, into_iter_len}
use Rattle.page_model.specs.declared.limits.TheConstants.{MAX_ENTRIES}
use Rattle.share_rings.specs.Closing.{has_close}
use Rattle.merge_machine.specs.Kept.{port_names, port_capacities}
use Rattle.merge_machine.specs.Scripts.{entries_needed}
use Rattle.merge_run.specs.Tasks.{IsUnused, IsReady, task_names, task_capacities, task_requests, all_sent}
use Rattle.merge_run.proofs.task_list.new_tasks.Given as goal

abbrev pub invariant-loop-script : goal.invariant-loop-script
invariant-loop-script g l = record {
  ready : All IsReady l.tasks.items;
  names : task_names l.tasks.items ++ port_names (into_iter_items l.ports) ≡ port_names l.fn.ports.items;
  capacities : task_capacities l.tasks.items ++ port_capacities (into_iter_items l.ports) ≡ port_capacities l.fn.ports.items;
  requests : task_requests l.tasks.items ≡ all_sent l.yielded;
  len : vec_len l.tasks ≡ length l.yielded;
  room : length l.fn.scripts.items ≤ vec_capacity l.tasks;
  ports_len : into_iter_len l.ports ≡ length (into_iter_items l.ports);
  each : length (into_iter_items l.ports) ≡ length (into_iter_items l.script-iterator);
  unused : All IsUnused (into_iter_items l.ports);
  plain : All (λ script. has_close script.items ≡ false) (into_iter_items l.script-iterator);
  few : entries_needed (into_iter_items l.script-iterator) ≤ MAX_ENTRIES;
  whole : l.yielded ++ into_iter_items l.script-iterator ≡ l.fn.scripts.items;
}
