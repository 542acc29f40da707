use Rattle.host_sessions.specs.Table.{session_at}
use Rattle.host_sessions.proofs.Apart.{take_back_spares}
use Rattle.host_sessions.proofs.Stay.{take_back_bytes}
use Rattle.host_sessions.proofs.host.Host.take_back.Goals as goal

pub returns-clause-others : goal.returns-clause-others
returns-clause-others g c = take_back_spares c.args.number c.args.frames.now c.take_back_in.result c.args.self.now c.take_back_in.new.self c.take_back_in.ensures

pub returns-clause-bytes : goal.returns-clause-bytes
returns-clause-bytes g c = take_back_bytes c.args.number (session_at c.args.self.now.sessions c.args.number) c.args.frames.now c.take_back_in.result c.args.self.now c.take_back_in.new.self c.take_back_in.ensures
