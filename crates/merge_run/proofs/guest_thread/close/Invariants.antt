use Rattle.std.proofs.Common.{◌≡◌}
use Rattle.share_rings.specs.Ends.{port_name, port_capacity, port_sent, port_got}
use Rattle.merge_run.proofs.guest_thread.close.Given as goal

abbrev pub invariant-loop : goal.invariant-loop
invariant-loop g l = (port_name l.port ≡ port_name l.initial.port) × (port_capacity l.port ≡ port_capacity l.initial.port) × (port_sent l.port ≡ port_sent l.initial.port) × (l.inbox.verdicts.items ≡ port_got l.port)
