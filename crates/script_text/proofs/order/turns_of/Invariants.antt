use Rattle.merge_machine.specs.Scripts.{with_close}
use Rattle.std.proofs.Common.{◌≡◌, drop, map, max}
use Rattle.script_text.specs.Order.{longest}
use Rattle.script_text.specs.Views.{lists_of}
use Rattle.script_text.proofs.order.turns_of.Given as goal

abbrev pub invariant-loop-script : goal.invariant-loop-script
invariant-loop-script g l = max l.most (longest (map with_close (lists_of (drop l.script-index l.scripts)))) ≡ longest (map with_close (lists_of l.scripts))
