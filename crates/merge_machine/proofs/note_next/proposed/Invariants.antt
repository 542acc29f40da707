use Rattle.std.proofs.Common.{◌≤◌, length}
use Rattle.merge_machine.proofs.note_next.proposed.Given as goal

abbrev pub invariant-loop-i : goal.invariant-loop-i
invariant-loop-i l = length l.pages.items ≤ l.i
