use Rattle.std.proofs.Common.{◌∙◌}
use Rattle.frame_fingerprints.proofs.Search.{found_is_held}
use Rattle.frame_fingerprints.proofs.store.FrameFingerprints.has.Goals as goal

pub returns : goal.returns
returns g c = c.is_some.ensures ∙ found_is_held c.args.fingerprint c.args.self.now.held c.find.result c.find.ensures
