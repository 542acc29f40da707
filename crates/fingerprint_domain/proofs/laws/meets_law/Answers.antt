use Rattle.fingerprint_domain.proofs.Meets.{equal_pages_meet}
use Rattle.fingerprint_domain.proofs.laws.meets_law.Goals as goal

pub returns : goal.returns
returns c = equal_pages_meet
