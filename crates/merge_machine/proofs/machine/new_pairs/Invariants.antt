use Rattle.std.proofs.Common.{◌≡◌, ◌≤◌, All, length, vec_capacity}
use Rattle.merge_machine.specs.Kept.{end_names, port_names}
use Rattle.merge_machine.specs.Fresh.{IsFreshEnd, IsFreshPort}
use Rattle.merge_machine.proofs.machine.new_pairs.Given as goal

abbrev pub invariant-loop-guest : goal.invariant-loop-guest
invariant-loop-guest g l =
    (port_names l.ports.items ≡ end_names l.ends.items) × All (IsFreshPort l.ring) l.ports.items × All (IsFreshEnd l.ring) l.ends.items
    × (length l.ports.items ≡ l._guest) × (length l.ends.items ≡ l._guest) × (l.guests ≤ vec_capacity l.ports) × (l.guests ≤ vec_capacity l.ends)
