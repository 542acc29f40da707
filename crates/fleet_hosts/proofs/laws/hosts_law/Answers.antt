use Rattle.fleet_hosts.proofs.Summed.{hosts_below_pool}
use Rattle.fleet_hosts.proofs.laws.hosts_law.Goals as goal

pub returns : goal.returns
returns c fleet hosts count long = hosts_below_pool fleet hosts long count
