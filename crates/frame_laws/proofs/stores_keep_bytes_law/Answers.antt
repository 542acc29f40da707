use Rattle.frame_laws.proofs.BytesStay.{stores_keep_bytes}
use Rattle.frame_laws.proofs.stores_keep_bytes_law.Goals as goal

pub returns : goal.returns
returns c = stores_keep_bytes
