use Rattle.host_sessions.proofs.Apart.{receives_spare}
use Rattle.host_sessions.proofs.Stay.{receives_bytes}
use Rattle.host_sessions.proofs.host.Host.receive.Goals as goal

pub returns-clause-others : goal.returns-clause-others
returns-clause-others g c = receives_spare c.args.number c.args.bytes.now c.args.pages.now c.args.may c.hear.result c.args.self.now c.hear.new.self c.hear.ensures

pub returns-clause-bytes : goal.returns-clause-bytes
returns-clause-bytes g c = receives_bytes c.args.number c.args.bytes.now c.args.pages.now c.args.may c.hear.result c.args.self.now c.hear.new.self c.hear.ensures
