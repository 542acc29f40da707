use Rattle.host_halves.proofs.Held.{resumes_half}
use Rattle.host_halves.proofs.resume_law.Goals as goal

pub returns : goal.returns
returns c = resumes_half
