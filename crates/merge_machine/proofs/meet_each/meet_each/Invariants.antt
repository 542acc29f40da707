use Rattle.std.proofs.Common.{◌≡◌}
use Rattle.merge_machine.specs.Kept.{end_views, closed_views}
use Rattle.merge_machine.specs.Meets.{MeetWhereClosed, KnownBelow, NoFewerFree}
use Rattle.merge_machine.proofs.meet_each.meet_each.Given as goal

abbrev pub invariant-loop-i : goal.invariant-loop-i
invariant-loop-i g l = record {
  ports : closed_views l.ports.items ≡ closed_views l.initial.ports.items;
  ends : end_views l.ends.items ≡ end_views l.initial.ends.items;
  known : KnownBelow l.ports.items l.ends.items l.i;
  free : NoFewerFree l.initial.ends.items l.ends.items;
  met : MeetWhereClosed l.initial.ports.items l.initial.ends.items l.i;
}
