use Rattle.std.proofs.Common.{◌≡◌, replicate}
use Rattle.arrayvec.specs.ArrayVec.{array_vec_len}
use Rattle.host_sessions.specs.Turns.{not_lent}
use Rattle.host_sessions.proofs.lend.refused.Given as goal

abbrev pub invariant-loop : goal.invariant-loop
invariant-loop l = record { pages : l.pages.items ≡ replicate l.counter not_lent; len : array_vec_len l.pages ≡ l.counter }
