use Rattle.std.proofs.Common.{◌≡◌, replicate, vec_len}
use Rattle.std.specs.Prelude.{vec_capacity}
use Rattle.host_sessions.specs.Table.{no_loans}
use Rattle.host_sessions.proofs.host.new_last.Given as goal

abbrev pub invariant-loop : goal.invariant-loop
invariant-loop g l = record { empty : l.last.items ≡ replicate l.counter no_loans; len : vec_len l.last ≡ l.counter; room : vec_capacity l.last ≡ l.fn.count }
