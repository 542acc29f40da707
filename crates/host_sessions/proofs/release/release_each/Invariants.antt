use Rattle.std.proofs.Common.{◌≡◌, ◌++◌, drop}
use Rattle.arrayvec.specs.ArrayVec.{array_vec_len}
use Rattle.host_sessions.specs.Turns.{freed_by, after_releases}
use Rattle.host_sessions.proofs.release.release_each.Given as goal

abbrev pub invariant-loop-number : goal.invariant-loop-number
invariant-loop-number g l = record {
  freed : l.freed.items ++ freed_by l.client (drop l.number-index l.numbers) l.domain.domain ≡ freed_by l.client l.numbers l.fn.domain.domain;
  domain : after_releases l.client (drop l.number-index l.numbers) l.domain.domain ≡ after_releases l.client l.numbers l.fn.domain.domain;
  salt : l.domain.salt ≡ l.fn.domain.salt;
  len : array_vec_len l.freed ≡ l.number-index;
}
