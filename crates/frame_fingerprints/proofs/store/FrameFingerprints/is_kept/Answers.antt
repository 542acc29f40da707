use Rattle.std.proofs.Common.{◌∙◌, ap, Option, ℕ}
use Rattle.std.specs.Prelude.{is_some}
use Rattle.frame_fingerprints.proofs.Nodes.{held_listed}
use Rattle.frame_fingerprints.proofs.store.FrameFingerprints.is_kept.Goals as goal

pub returns : goal.returns
returns g c = rw (← c.self.view_is) (c.is_used.ensures.used ∙ ap (λ (o : Option ℕ). is_some o) (held_listed c.self.inside.chains.nodes c.args.frame))
