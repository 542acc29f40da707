use Rattle.std.proofs.Common.{ap, ◌∙◌, arith}
use Rattle.host_messages.specs.Reading.{client_at}
use Rattle.host_messages.proofs.Laws.{client_found, client_again}
use Rattle.host_messages.proofs.client.ClientMessage.from_bytes.Goals as goal

pub returns-clause-found : goal.returns-clause-found
returns-clause-found c = client_found c.args.bytes.now c.read.result (λ i. omega (arith, c.type_inv.bytes i)) c.read.ensures

pub returns-clause-only : goal.returns-clause-only
returns-clause-only c = λ m fits e. c.read.ensures ∙ ap client_at e ∙ client_again m fits
