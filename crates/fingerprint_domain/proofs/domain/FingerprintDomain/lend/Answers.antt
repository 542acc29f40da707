use Rattle.std.proofs.Common.{◌∙◌, sym, ap, ℕ, Some}
use Rattle.std.specs.Prelude.{slice_set}
use Rattle.frame_fingerprints.specs.Held.{Fingerprints}
use Rattle.fingerprint_domain.proofs.Found.{held_length, lends_found, refuses_found}
use Rattle.fingerprint_domain.proofs.Reflected.{lend_reflects, kept_already}
use Rattle.fingerprint_domain.proofs.domain.FingerprintDomain.lend.Goals as goal

pub lend_by-answer-requires : goal.lend_by-answer-requires
lend_by-answer-requires g c =
    let s = c.self.inside in
    (c.type_bounds.sync-H, held_length s.salt s.domain s.fingerprints c.self.invariant)

pub returns-in-Err-clause-lends : goal.returns-in-Err-clause-lends
returns-in-Err-clause-lends g c =
    let s = c.self.inside in
    let said = c.in-Err.ensures.lends in
    rw (← c.self.view_is) (refuses_found s.salt s.domain s.fingerprints c.self.invariant c.hash-fingerprint.result c.args.client c.args.page.now c.in-Err.fault c.hash-fingerprint.ensures said.0 said.1, said.2)

pub returns-then-not-is_kept-clause-lends : goal.returns-then-not-is_kept-clause-lends
returns-then-not-is_kept-clause-lends g c =
    let s = c.self.inside in
    let said = c.in-Ok.ensures.lends in
    rw (← c.self.view_is) (lends_found s.salt s.domain s.fingerprints c.self.invariant c.hash-fingerprint.result c.args.client c.args.page.now c.in-Ok.loan c.lend_by-answer.new.domain c.hash-fingerprint.ensures said.0 said.1)

pub returns-else-not-is_kept-clause-lends : goal.returns-else-not-is_kept-clause-lends
returns-else-not-is_kept-clause-lends g c =
    let s = c.self.inside in
    let said = c.in-Ok.ensures.lends in
    rw (← c.self.view_is) (lends_found s.salt s.domain s.fingerprints c.self.invariant c.hash-fingerprint.result c.args.client c.args.page.now c.in-Ok.loan c.lend_by-answer.new.domain c.hash-fingerprint.ensures said.0 said.1)

pub invariant_of-self-then-not-is_kept : goal.invariant_of-self-then-not-is_kept
invariant_of-self-then-not-is_kept g c =
    let s = c.self.inside in
    lend_reflects s.salt _ c.args.client c.args.page.now c.in-Ok.loan s.domain c.lend_by-answer.new.domain c.in-Ok.ensures.lends.1 s.fingerprints c.put.new.self c.self.invariant
    (ap (λ (f : Fingerprints). f.held) c.put.ensures ∙ ap (λ (k : ℕ). slice_set s.fingerprints.held c.in-Ok.loan.frame (Some k)) c.hash-fingerprint.ensures)

pub invariant_of-self-else-not-is_kept : goal.invariant_of-self-else-not-is_kept
invariant_of-self-else-not-is_kept g c =
    let s = c.self.inside in
    lend_reflects s.salt _ c.args.client c.args.page.now c.in-Ok.loan s.domain c.lend_by-answer.new.domain c.in-Ok.ensures.lends.1 s.fingerprints s.fingerprints c.self.invariant
    (sym (kept_already s.salt _ c.args.client c.args.page.now c.in-Ok.loan s.domain c.lend_by-answer.new.domain c.in-Ok.ensures.lends.1 s.fingerprints s.fingerprints c.self.invariant (sym c.is_kept.ensures ∙ c.if-not-is_kept.false)))
