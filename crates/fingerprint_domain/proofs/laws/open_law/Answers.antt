use Rattle.fingerprint_domain.proofs.Meets.{open_refuses}
use Rattle.fingerprint_domain.proofs.laws.open_law.Goals as goal

pub returns : goal.returns
returns c = open_refuses
