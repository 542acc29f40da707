use Rattle.std.proofs.Common.{◌≡◌, replicate, vec_len}
use Rattle.std.specs.Prelude.{vec_capacity}
use Rattle.lent_slots.specs.Noted.{no_slots}
use Rattle.lent_slots.proofs.make.new_clients.Given as goal

abbrev pub invariant-loop : goal.invariant-loop
invariant-loop g l = record { none : l.noted.items ≡ replicate l.counter no_slots; len : vec_len l.noted ≡ l.counter; room : vec_capacity l.noted ≡ l.fn.clients }
