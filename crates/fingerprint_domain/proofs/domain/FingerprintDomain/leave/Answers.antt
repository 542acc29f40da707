use Rattle.fingerprint_domain.proofs.Reflected.{leave_reflects}
use Rattle.fingerprint_domain.proofs.domain.FingerprintDomain.leave.Goals as goal

pub invariant_of-self-in-Some : goal.invariant_of-self-in-Some
invariant_of-self-in-Some g c =
    let s = c.self.inside in
    leave_reflects s.salt c.args.client c.in-Some.count c.args.freed.now c.leave.new.freed s.domain c.leave.new.self s.fingerprints c.forget_each.new.fingerprints c.in-Some.ensures c.self.invariant c.forget_each.ensures
