-- What sharing reclaims on each host, beside what it reclaims in one pool.
use Rattle.std.specs.Prelude.{◌≡◌, ℕ, ◌≤◌, List, [], length, map, slice_index_or}
use Rattle.digest_text.specs.Fields.{Row}
use Rattle.fleet_census.specs.Amounts.{estimate, sum_below}
use Rattle.fleet_census.specs.Fleets.{total_numbers}
use Rattle.fleet_hosts.specs.Hosts.{guests_of}

-- the rows of the guests that are on a host
abbrev pub on_host : ℕ → List ℕ → List (List Row) → List (List Row)
on_host host hosts fleet = map (λ guest. slice_index_or fleet guest []) (guests_of host hosts)

-- what sharing reclaims of whole digests
abbrev pub reclaimed : List (List Row) → ℕ
reclaimed fleet = estimate (total_numbers fleet).reclaimed 1

-- the sum over the first so many hosts
abbrev pub HostsLaw : Type 0
HostsLaw = (fleet : List (List Row)) (hosts : List ℕ) (count : ℕ) → length hosts ≡ length fleet →
    sum_below (λ host. reclaimed (on_host host hosts fleet)) count ≤ reclaimed fleet
