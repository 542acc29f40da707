use Rattle.std.proofs.Common.{◌≡◌, ◌+◌, ◌≤◌, ◌++◌, drop, length, vec_capacity}
use Rattle.journal_text.specs.Texts.{AreBelow}
use Rattle.script_text.specs.Order.{firsts, left_of}
use Rattle.script_text.specs.Views.{lists_of}
use Rattle.script_text.proofs.order.push_turn.Given as goal

abbrev pub invariant-loop-guest : goal.invariant-loop-guest
invariant-loop-guest g l = record {
  items : l.entries.items ++ firsts l.guest (drop l.guest (left_of l.turn (lists_of l.scripts))) ≡ l.fn.entries.items ++ firsts 0 (left_of l.turn (lists_of l.scripts));
  below : AreBelow (length l.scripts) l.entries.items;
  few : length l.entries.items ≤ length l.fn.entries.items + l.guest;
  capacity : vec_capacity l.entries ≡ vec_capacity l.fn.entries;
}
