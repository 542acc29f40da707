use Rattle.std.proofs.Common.{◌≡◌}
use Rattle.arrayvec.specs.ArrayVec.{array_vec_len}
use Rattle.share_domain.specs.Bytes.{BytesStay}
use Rattle.host_sessions.proofs.Loops.{SoFar}
use Rattle.host_sessions.proofs.Stay.{HeldStay}
use Rattle.host_sessions.proofs.lend.lend_each.Given as goal

abbrev pub invariant-loop-page : goal.invariant-loop-page
invariant-loop-page g l = record {
  lends : SoFar l.fn.domain.salt l.client l.quota l.pages l.fn.domain.domain l.page-index l.loans.items l.domain.domain;
  held : HeldStay l.fn.domain.domain l.domain.domain;
  bytes : BytesStay l.fn.domain.domain l.domain.domain;
  salt : l.domain.salt ≡ l.fn.domain.salt;
  len : array_vec_len l.loans ≡ l.page-index;
}
