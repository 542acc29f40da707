use Rattle.std.proofs.Common.{◌≤◌}
use Rattle.fleet_hosts.specs.Hosts.{first_equal}
use Rattle.fleet_hosts.proofs.hosts.first_equal.Given as goal

abbrev pub invariant-loop-at : goal.invariant-loop-at
invariant-loop-at l = l.at ≤ first_equal l.name l.names
