use Rattle.std.proofs.Common.{◌≡◌, ◌≤◌, length, map, take, vec_capacity, vec_len}
use Rattle.fleet_hosts.specs.Hosts.{first_equal}
use Rattle.fleet_hosts.proofs.hosts.hosts_of.Given as goal

abbrev pub invariant-loop-name : goal.invariant-loop-name
invariant-loop-name g l = record {
  kept : l.hosts.items ≡ map (λ name. first_equal name.now l.names) (take l.name-index l.names);
  len : vec_len l.hosts ≡ l.name-index;
  room : length l.names ≤ vec_capacity l.hosts;
}
