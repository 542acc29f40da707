use Rattle.std.proofs.Common.{◌≡◌, map, take}
use Rattle.arrayvec.specs.ArrayVec.{array_vec_len}
use Rattle.host_sessions.specs.Turns.{back_by}
use Rattle.host_sessions.proofs.back.back_in.Given as goal

abbrev pub invariant-loop-lent : goal.invariant-loop-lent
invariant-loop-lent l = record { loans : l.back.items ≡ map (back_by l.frames) (take l.lent-index l.loans); len : array_vec_len l.back ≡ l.lent-index }
