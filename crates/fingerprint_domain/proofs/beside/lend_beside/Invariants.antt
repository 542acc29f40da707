use Rattle.fingerprint_domain.proofs.Tried.{Tries, untried}
use Rattle.fingerprint_domain.proofs.beside.lend_beside.Given as goal

abbrev pub invariant-loop-frame : goal.invariant-loop-frame
invariant-loop-frame g l = Tries l.client l.fn.domain l.domain l.tried

abbrev pub decreases-loop-frame : goal.decreases-loop-frame
decreases-loop-frame g l = untried l.tried
