use Rattle.host_sessions.specs.Table.{session_at}
use Rattle.host_sessions.proofs.Stay.{ends_bytes, ends_spare}
use Rattle.host_sessions.proofs.host.Host.end.Goals as goal

pub returns-clause-others : goal.returns-clause-others
returns-clause-others g c = ends_spare c.args.number (session_at c.args.self.now.sessions c.args.number) c.end_number.result c.args.freed.now c.end_number.new.freed c.args.self.now c.end_number.new.self c.end_number.ensures

pub returns-clause-bytes : goal.returns-clause-bytes
returns-clause-bytes g c = ends_bytes c.args.number (session_at c.args.self.now.sessions c.args.number) c.end_number.result c.args.freed.now c.end_number.new.freed c.args.self.now c.end_number.new.self c.end_number.ensures
