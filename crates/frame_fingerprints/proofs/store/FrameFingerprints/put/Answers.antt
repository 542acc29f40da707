use Rattle.std.proofs.Common.{◌≡◌, ◌∙◌, map, ap, Some, None, refl}
use Rattle.std.specs.Prelude.{slice_set}
use Rattle.frame_fingerprints.specs.Chained.{fingerprint_in}
use Rattle.frame_fingerprints.specs.Held.{Fingerprints}
use Rattle.frame_fingerprints.proofs.Changes.{is_free_since, set_twice}
use Rattle.frame_fingerprints.proofs.store.FrameFingerprints.put.Goals as goal

pub put-requires-clause-free : goal.put-requires-clause-free
put-requires-clause-free g c =
    is_free_since c.self.inside.chains.nodes c.args.self.now.held c.args.frame (ap (λ (f : Fingerprints). f.held) (c.self.view_is ∙ c.remove.ensures))

pub returns-then-frame-len : goal.returns-then-frame-len
returns-then-frame-len g c =
    let inside = c.self.inside.chains in
    let factor : inside.buckets.factor ≡ c.args.self.now.factor = ap (λ (f : Fingerprints). f.factor) (c.self.view_is ∙ c.remove.ensures) in
    let held : map fingerprint_in inside.nodes ≡ slice_set c.args.self.now.held c.args.frame None = ap (λ (f : Fingerprints). f.held) (c.self.view_is ∙ c.remove.ensures) in
    rw (c.put.ensures.factor, c.put.ensures.held, factor, held, set_twice c.args.self.now.held c.args.frame (Some c.args.fingerprint)) refl
