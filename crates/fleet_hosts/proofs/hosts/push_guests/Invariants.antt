use Rattle.std.proofs.Common.{◌≡◌, ◌≤◌, length, take, vec_capacity, vec_len}
use Rattle.std.specs.Prelude.{filter}
use Rattle.std.specs.List.{range_with_len}
use Rattle.fleet_hosts.specs.Hosts.{is_on}
use Rattle.fleet_hosts.proofs.hosts.push_guests.Given as goal

abbrev pub invariant-loop-at : goal.invariant-loop-at
invariant-loop-at g l = record {
  kept : l.guests.items ≡ filter (is_on l.hosts l.host) (take l.at (range_with_len 0 (length l.hosts)));
  len : vec_len l.guests ≤ l.at;
  room : length l.hosts ≤ vec_capacity l.guests;
}
