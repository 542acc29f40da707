use Rattle.std.proofs.Common.{◌≡◌, ◌++◌, ◌≤◌, drop}
use Rattle.arrayvec.specs.ArrayVec.{array_vec_len}
use Rattle.host_sessions.specs.Turns.{slots_in}
use Rattle.host_sessions.proofs.lend.slots_in.Given as goal

abbrev pub invariant-loop-lent : goal.invariant-loop-lent
invariant-loop-lent l = record {
  slots : l.slots.items ++ slots_in (drop l.lent-index l.loans) ≡ slots_in l.loans;
  len : array_vec_len l.slots ≤ l.lent-index;
}
