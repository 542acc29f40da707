use Rattle.std.proofs.Common.{◌≡◌, ◌∙◌, ◌/◌, ℕ, false, None, ap, sym, subst, arith}
use Rattle.std.specs.Prelude.{slice_index_or}
use Rattle.share_domain.specs.Domains.{DomainView}
use Rattle.frame_fingerprints.specs.Held.{Finds}
use Rattle.fingerprint_domain.proofs.Tried.{all_tried, fewer, tries_none}
use Rattle.fingerprint_domain.proofs.beside.lend_beside.Goals as goal

pub loop-frame-init : goal.loop-frame-init
loop-frame-init g c = tries_none c.args.client c.args.domain.now

pub loop-frame-smaller : goal.loop-frame-smaller
loop-frame-smaller g c =
    let t = c.loop-frame.invariant in
    let is : c.machine_of-machine.result ≡ c.in-Some.frame / c.frames_each-each.result =
    c.machine_of-machine.ensures.machine ∙ ap (λ (d : DomainView). c.in-Some.frame / d.frames) t.same ∙ ap (λ (n : ℕ). c.in-Some.frame / n) (sym c.frames_each-each.ensures.value) in
    fewer c.loop-frame.tried c.machine_of-machine.result (omega (arith, c.machine_of-machine.ensures.most, t.long))
    (ap (λ (k : ℕ). slice_index_or c.loop-frame.tried k false) is ∙ c.in-Some.ensures.1)

pub returns-clause-lends : goal.returns-clause-lends
returns-clause-lends g c =
    let t = c.loop-frame.invariant in
    let none = subst (λ (n : ℕ). Finds c.args.fingerprint n c.loop-frame.tried c.args.fingerprints.now.held None) c.frames_each-each.ensures.value c.in_default.ensures in
    (all_tried c.args.fingerprint c.args.fingerprints.now.held c.args.domain.now c.loop-frame.domain c.args.client c.loop-frame.tried none t, t.same)
