use Rattle.std.proofs.Common.{◌≡◌, [], length, replicate}
use Rattle.script_text.specs.Views.{lists_of}
use Rattle.script_text.proofs.room.empty_scripts.Given as goal

abbrev pub invariant-loop-guest : goal.invariant-loop-guest
invariant-loop-guest g l = record {
  lists : lists_of l.scripts.items ≡ replicate l.guest [];
  count : length l.scripts.items ≡ l.guest;
}
