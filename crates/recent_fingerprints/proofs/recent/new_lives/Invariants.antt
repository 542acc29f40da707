use Rattle.std.proofs.Common.{◌≡◌, replicate, vec_len}
use Rattle.std.specs.Prelude.{vec_capacity}
use Rattle.recent_fingerprints.proofs.recent.new_lives.Given as goal

abbrev pub invariant-loop : goal.invariant-loop
invariant-loop g l = record { free : l.lives.items ≡ replicate l.counter 0; len : vec_len l.lives ≡ l.counter; room : vec_capacity l.lives ≡ l.fn.clients }
