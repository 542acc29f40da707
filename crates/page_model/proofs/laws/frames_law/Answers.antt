use Rattle.page_model.proofs.InUse.{frames_suffice}
use Rattle.page_model.proofs.laws.frames_law.Goals as goal

pub returns : goal.returns
returns c = frames_suffice c.args.entries.now
