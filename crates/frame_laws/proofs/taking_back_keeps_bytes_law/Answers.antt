use Rattle.frame_laws.proofs.BytesStay.{taking_back_keeps_bytes}
use Rattle.frame_laws.proofs.taking_back_keeps_bytes_law.Goals as goal

pub returns : goal.returns
returns c = taking_back_keeps_bytes
