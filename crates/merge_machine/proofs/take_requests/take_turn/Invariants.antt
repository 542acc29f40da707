use Rattle.std.proofs.Common.{◌≡◌, ◌≤◌, length, vec_capacity}
use Rattle.page_model.specs.declared.limits.TheConstants.{MAX_GUESTS}
use Rattle.merge_machine.specs.Taking.{TookSo, AreExhausted}
use Rattle.merge_machine.proofs.take_requests.take_turn.Given as goal

-- where none was taken so far, nothing more can be taken from the guests that were visited
abbrev pub invariant-loop-guest : goal.invariant-loop-guest
invariant-loop-guest g l = record {
  took : TookSo l.fn.ends.items l.ends.items l.fn.journal.items l.journal.items l.fn.owed l.owed;
  within : length l.journal.items ≤ l.full;
  exhausted : length l.journal.items ≡ length l.fn.journal.items → AreExhausted l.guest l.owed l.ends.items;
  owed : length l.owed ≡ MAX_GUESTS;
  capacity : vec_capacity l.journal ≡ vec_capacity l.fn.journal;
}
