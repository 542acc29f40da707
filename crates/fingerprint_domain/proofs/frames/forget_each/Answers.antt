use Rattle.std.proofs.Common.{refl}
use Rattle.frame_fingerprints.specs.Held.{with_held}
use Rattle.fingerprint_domain.specs.Fits.{after_freed}
use Rattle.fingerprint_domain.proofs.Reflected.{freed_more, all_freed}
use Rattle.fingerprint_domain.proofs.frames.forget_each.Goals as goal

pub loop-frame-preserved : goal.loop-frame-preserved
loop-frame-preserved g c =
    let l = c.loop-frame in
    freed_more c.args.freed.now l.frame-index _ _ l.fingerprints c.remove.new.self (with_held (after_freed c.args.freed.now c.args.fingerprints.now.held) c.args.fingerprints.now) c.loop-frame-test.true refl c.remove.ensures l.invariant

pub returns : goal.returns
returns g c =
    let l = c.loop-frame in
    all_freed c.args.freed.now l.frame-index l.fingerprints (with_held (after_freed c.args.freed.now c.args.fingerprints.now.held) c.args.fingerprints.now) c.loop-frame-test.false l.invariant
