use Rattle.std.proofs.Common.{◌≡◌, take}
use Rattle.report_text.specs.HostSums.{errors_of}
use Rattle.report_text.proofs.hosts.errors_of.Given as goal

abbrev pub invariant-loop-host : goal.invariant-loop-host
invariant-loop-host l = l.sum ≡ errors_of (take l.host-index l.hosts)
