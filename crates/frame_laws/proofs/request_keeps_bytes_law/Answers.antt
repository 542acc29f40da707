use Rattle.frame_laws.proofs.BytesStay.{request_keeps_bytes}
use Rattle.frame_laws.proofs.request_keeps_bytes_law.Goals as goal

pub returns : goal.returns
returns c = request_keeps_bytes
