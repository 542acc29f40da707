use Rattle.std.proofs.Common.{◌≡◌, ◌+◌, take}
use Rattle.merge_machine.specs.Scripts.{entries_needed}
use Rattle.merge_run.proofs.task_list.has_room.Given as goal

abbrev pub invariant-loop-script : goal.invariant-loop-script
invariant-loop-script g l = l.left + entries_needed (take l.script-index l.scripts) ≡ l.fn.journal
