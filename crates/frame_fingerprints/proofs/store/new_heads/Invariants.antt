use Rattle.std.proofs.Common.{◌≡◌, replicate, vec_len}
use Rattle.std.specs.Prelude.{vec_capacity}
use Rattle.frame_fingerprints.specs.declared.node.TheConstants.{NOWHERE}
use Rattle.frame_fingerprints.proofs.store.new_heads.Given as goal

abbrev pub invariant-loop : goal.invariant-loop
invariant-loop g l = record { free : l.heads.items ≡ replicate l.counter NOWHERE; len : vec_len l.heads ≡ l.counter; room : vec_capacity l.heads ≡ l.fn.count }
