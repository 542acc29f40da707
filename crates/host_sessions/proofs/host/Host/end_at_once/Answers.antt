use Rattle.host_sessions.specs.Table.{session_at}
use Rattle.host_sessions.proofs.Emptied.{ends_none}
use Rattle.host_sessions.proofs.host.Host.end_at_once.Goals as goal

pub returns-clause-ends : goal.returns-clause-ends
returns-clause-ends g c = record {
  count = c.end-count.result;
  room = c.args.freed.now;
  after = c.end-count.new.freed;
  ends = c.end-count.ensures.ends;
  none = ends_none c.args.number (session_at c.args.self.now.sessions c.args.number) c.end-count.result c.args.freed.now c.end-count.new.freed c.args.self.now c.end-count.new.self c.requires.empty c.end-count.ensures.ends;
}
