use Rattle.std.proofs.Common.{◌∙◌, sym, refl}
use Rattle.frame_fingerprints.proofs.Changes.{none_stays}
use Rattle.frame_fingerprints.proofs.store.FrameFingerprints.remove.Goals as goal

pub returns-else-is_used : goal.returns-else-is_used
returns-else-is_used g c =
    let stays = none_stays c.self.inside.chains.nodes c.args.frame (sym c.is_used.ensures.used ∙ c.if-is_used.false) in
    rw (← c.self.view_is, stays) refl
