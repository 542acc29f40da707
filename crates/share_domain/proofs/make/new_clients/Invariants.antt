use Rattle.std.proofs.Common.{◌≡◌, replicate, vec_len}
use Rattle.std.specs.Prelude.{vec_capacity}
use Rattle.share_domain.specs.declared.client.Presence.TheVariants.{Out}
use Rattle.share_domain.proofs.make.new_clients.Given as goal

abbrev pub invariant-loop : goal.invariant-loop
invariant-loop g l = record { out : l.clients.items ≡ replicate l.counter Out; len : vec_len l.clients ≡ l.counter; room : vec_capacity l.clients ≡ l.fn.count }
