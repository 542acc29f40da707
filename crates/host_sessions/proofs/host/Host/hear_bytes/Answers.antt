use Rattle.std.proofs.Common.{subst, Result}
use Rattle.host_messages.specs.declared.client.ClientMessage.{ClientMessage}
use Rattle.host_messages.specs.declared.fault.MessageFault.{MessageFault}
use Rattle.host_sessions.specs.declared.session.Session.{Session}
use Rattle.host_sessions.specs.Table.{session_at}
use Rattle.host_sessions.specs.Steps.{Hears}
use Rattle.host_sessions.proofs.host.Host.hear_bytes.Goals as goal

pub returns : goal.returns
returns g c =
    let old = c.args.self.now in
    let new = c.hear_read.new.self in
    subst (λ (r : Result ClientMessage MessageFault). Hears c.args.number c.args.may c.args.pages.now (session_at old.sessions c.args.number) r c.hear_read.result old new) c.from_bytes-read.ensures.exact
    (subst (λ (s : Session). Hears c.args.number c.args.may c.args.pages.now s c.from_bytes-read.result c.hear_read.result old new) c.session-session.ensures.session c.hear_read.ensures)
