use Rattle.std.proofs.Common.{◌≡◌, ◌≤◌, take}
use Rattle.std.specs.Prelude.{count_by}
use Rattle.lent_slots.specs.Tags.{slots_of}
use Rattle.lent_slots.specs.Totals.{is_shared}
use Rattle.lent_slots.proofs.count.count_shared.Given as goal

abbrev pub invariant-loop-i : goal.invariant-loop-i
invariant-loop-i g l = record {
  so_far : l.shared ≡ count_by (is_shared (slots_of l.core.pmap l.tags)) (take l.i (slots_of l.core.pmap l.tags));
  few : l.shared ≤ l.i;
}
