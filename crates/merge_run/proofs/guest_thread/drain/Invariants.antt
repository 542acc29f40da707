use Rattle.std.proofs.Common.{◌≡◌}
use Rattle.share_rings.specs.Ends.{closed_name, closed_capacity, closed_sent, closed_got}
use Rattle.merge_run.proofs.guest_thread.drain.Given as goal

abbrev pub invariant-loop : goal.invariant-loop
invariant-loop g l = (closed_name l.port ≡ closed_name l.initial.port) × (closed_capacity l.port ≡ closed_capacity l.initial.port) × (closed_sent l.port ≡ closed_sent l.initial.port) × (l.inbox.verdicts.items ≡ closed_got l.port)
