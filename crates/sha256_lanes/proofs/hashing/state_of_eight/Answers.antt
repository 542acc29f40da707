use Rattle.std.proofs.Common.{◌≡◌, ◌/◌, [], ap, arith, length, refl, slice_index_or, ◌∙◌}
use Rattle.sha2.specs.Sha256.{hash_after, initial_hash_256}
use Rattle.sha256_lanes.specs.Hashes.{block_at}
use Rattle.sha256_lanes.proofs.Messages.{block_taken, none_taken}
use Rattle.sha256_lanes.proofs.hashing.state_of_eight.Goals as goal

pub loop-n-init : goal.loop-n-init
loop-n-init c j lt = none_taken (slice_index_or c.args.messages.now j []) _ (c.initial-state.ensures j lt)

pub loop-n-preserved : goal.loop-n-preserved
loop-n-preserved c j lt =
    let message = slice_index_or c.args.messages.now j [] in
    let n = c.loop-n.n in
    block_taken message n _ _ (block_at message n) (c.loop-n.invariant j lt) refl (c.absorb.ensures j lt _ (c.begin_eight.ensures j lt))

pub returns-clause-each : goal.returns-clause-each
returns-clause-each c j lt =
    let n = c.loop-n.n in
    let message = slice_index_or c.args.messages.now j [] in
    let first = c.blocks-n-end.ensures.all ∙ c.requires 0 _ (omega (arith, c.type_inv.messages)) in
    let same = c.requires j [] (omega (arith, lt, c.type_inv.messages)) in
    let blocks : n ≡ length message / 64 = omega (arith, c.loop-n.auto.n-end, c.loop-n-test.false, first, same) in
    c.loop-n.invariant j lt ∙ ap (hash_after initial_hash_256 message) blocks
