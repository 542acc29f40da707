use Rattle.std.proofs.Common.{refl}
use Rattle.host_sessions.proofs.host.Host.leave.Goals as goal

pub returns : goal.returns
returns g c = record { answer = c.leave-answer.result; leaves = rw (c.put.ensures, ← c.self.view_is) c.leave-answer.ensures.leaves; counted = c.count_of-count.ensures; now = rw (c.put.ensures, c.ended.ensures, c.count_of-count.ensures, ← c.self.view_is, c.leave-answer.ensures.salt, c.forget.ensures) refl }
