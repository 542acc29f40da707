use Rattle.std.proofs.Common.{◌≡◌, ◌∙◌, sym, ap, subst, ℕ, None}
use Rattle.std.specs.Prelude.{slice_set}
use Rattle.share_domain.specs.Domains.{DomainView}
use Rattle.frame_fingerprints.specs.Held.{Fingerprints}
use Rattle.fingerprint_domain.specs.Fits.{Reflects}
use Rattle.fingerprint_domain.proofs.Reflected.{release_reflects, number_in}
use Rattle.fingerprint_domain.proofs.domain.FingerprintDomain.release.Goals as goal

pub invariant_of-self-in-Ok : goal.invariant_of-self-in-Ok
invariant_of-self-in-Ok g c =
    let s = c.self.inside in
    subst (λ (d : DomainView). Reflects s.salt d c.remove.new.self) (sym c.release.ensures.now)
    (release_reflects s.salt c.args.client c.args.slot s.domain s.fingerprints c.remove.new.self c.self.invariant
    (ap (λ (f : Fingerprints). f.held) c.remove.ensures ∙ ap (λ (k : ℕ). slice_set s.fingerprints.held k None) (c.frame_number.ensures ∙ ap number_in (sym c.in-Ok.is ∙ c.release.ensures.answer))))
