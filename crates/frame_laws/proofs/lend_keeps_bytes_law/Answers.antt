use Rattle.frame_laws.proofs.BytesStay.{lend_keeps_bytes}
use Rattle.frame_laws.proofs.lend_keeps_bytes_law.Goals as goal

pub returns : goal.returns
returns c = lend_keeps_bytes
