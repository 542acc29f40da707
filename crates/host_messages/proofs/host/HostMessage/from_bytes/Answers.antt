use Rattle.std.proofs.Common.{ap, ◌∙◌, arith}
use Rattle.host_messages.specs.HostReading.{host_at}
use Rattle.host_messages.proofs.HostLaws.{host_found, host_again}
use Rattle.host_messages.proofs.host.HostMessage.from_bytes.Goals as goal

pub returns-clause-found : goal.returns-clause-found
returns-clause-found c = host_found c.args.bytes.now c.read.result (λ i. omega (arith, c.type_inv.bytes i)) c.read.ensures

pub returns-clause-only : goal.returns-clause-only
returns-clause-only c = λ m fits e. c.read.ensures ∙ ap host_at e ∙ host_again m fits
