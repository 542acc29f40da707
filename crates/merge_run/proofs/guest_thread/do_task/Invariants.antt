use Rattle.std.proofs.Common.{◌≡◌, length}
use Rattle.share_rings.specs.Ends.{port_name, port_capacity, port_sent, port_got}
use Rattle.merge_run.proofs.guest_thread.do_task.Given as goal

abbrev pub invariant-loop-request : goal.invariant-loop-request
invariant-loop-request g l =
    (port_name l.port ≡ port_name l.initial.port) × (port_capacity l.port ≡ port_capacity l.initial.port) × (port_sent l.port ≡ l.yielded) × (l.inbox.verdicts.items ≡ port_got l.port) × (l.nth ≡ length l.yielded)
