use Rattle.share_domain.proofs.Bytes.{bytes_given_up}
use Rattle.share_domain.proofs.domain.Domain.release.Goals as goal

pub returns-clause-bytes : goal.returns-clause-bytes
returns-clause-bytes g c = bytes_given_up c.args.slot c.args.self.now c.give_up.new.self c.give_up.ensures.now
