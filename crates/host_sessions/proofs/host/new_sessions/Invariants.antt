use Rattle.std.proofs.Common.{◌≡◌, replicate, vec_len}
use Rattle.std.specs.Prelude.{vec_capacity}
use Rattle.host_sessions.specs.declared.session.Session.TheVariants as session
use Rattle.host_sessions.proofs.host.new_sessions.Given as goal

abbrev pub invariant-loop : goal.invariant-loop
invariant-loop g l = record { free : l.sessions.items ≡ replicate l.counter session.Free; len : vec_len l.sessions ≡ l.counter; room : vec_capacity l.sessions ≡ l.fn.count }
