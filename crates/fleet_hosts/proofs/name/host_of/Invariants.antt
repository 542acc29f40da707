use Rattle.std.proofs.Common.{◌≤◌}
use Rattle.std.specs.List.{position_or_len}
use Rattle.fleet_hosts.specs.Hosts.{is_dot}
use Rattle.fleet_hosts.proofs.name.host_of.Given as goal

abbrev pub invariant-loop-at : goal.invariant-loop-at
invariant-loop-at l = l.at ≤ position_or_len is_dot l.name
