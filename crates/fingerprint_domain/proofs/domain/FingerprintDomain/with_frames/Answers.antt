use Rattle.std.proofs.Common.{◌≡◌, ◌∙◌, ap, ℕ, arith}
use Rattle.frame_fingerprints.specs.Held.{Fingerprints, none_held}
use Rattle.fingerprint_domain.proofs.Reflected.{empty_reflects, total_within}
use Rattle.fingerprint_domain.proofs.domain.FingerprintDomain.with_frames.Goals as goal

pub new-requires : goal.new-requires
new-requires g c = record { limit = omega (arith, total_within c.args.config.now c.requires.limits, c.total_frames-total.ensures) }

pub invariant_of-result : goal.invariant_of-result
invariant_of-result g c =
    empty_reflects c.args.salt c.args.seed c.args.config.now c.in_ok-fingerprints.fingerprints c.in_ok-domain.domain c.requires.limits c.in_ok-domain.ensures
    (c.in_ok-fingerprints.ensures ∙ ap (λ (n : ℕ). none_held n c.args.seed) c.total_frames-total.ensures)
