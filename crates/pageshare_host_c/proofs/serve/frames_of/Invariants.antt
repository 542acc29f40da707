use Rattle.std.proofs.Common.{◌≡◌, ◌++◌, ◌≤◌, drop}
use Rattle.arrayvec.specs.ArrayVec.{array_vec_len}
use Rattle.pageshare_host_c.specs.Serving.{frames_of}
use Rattle.pageshare_host_c.proofs.serve.frames_of.Given as goal

abbrev pub invariant-loop-lent : goal.invariant-loop-lent
invariant-loop-lent l = record {
  frames : l.frames.items ++ frames_of (drop l.lent-index l.loans) ≡ frames_of l.loans;
  len : array_vec_len l.frames ≤ l.lent-index;
}
