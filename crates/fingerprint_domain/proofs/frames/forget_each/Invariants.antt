use Rattle.std.proofs.Common.{◌≡◌, drop}
use Rattle.frame_fingerprints.specs.Held.{with_held}
use Rattle.fingerprint_domain.specs.Fits.{after_freed}
use Rattle.fingerprint_domain.proofs.frames.forget_each.Given as goal

abbrev pub invariant-loop-frame : goal.invariant-loop-frame
invariant-loop-frame g l = with_held (after_freed (drop l.frame-index l.freed) l.fingerprints.held) l.fingerprints ≡ with_held (after_freed l.freed l.fn.fingerprints.held) l.fn.fingerprints
