use Rattle.host_sessions.proofs.Stay.{answer_bytes}
use Rattle.host_sessions.proofs.lend.lend_within.Goals as goal

pub returns-clause-lends : goal.returns-clause-lends
returns-clause-lends g c = record { answer = c.lend-answer.result; answers = c.lend-answer.ensures.lends; lent-is = c.lent_by.ensures }

pub returns-clause-bytes : goal.returns-clause-bytes
returns-clause-bytes g c = answer_bytes c.args.domain.now.salt c.args.client c.args.page.now c.lend-answer.result c.args.domain.now.domain c.lend-answer.new.self.domain c.lend-answer.ensures.lends c.lend-answer.ensures.bytes
