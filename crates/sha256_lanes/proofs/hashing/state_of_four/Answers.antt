use Rattle.std.proofs.Common.{◌≡◌, ◌*◌, ◌/◌, ap, arith, drop, length, take, ◌∙◌}
use Rattle.sha2.specs.Sha256.{hash_after, initial_hash_256}
use Rattle.sha256_lanes.specs.Lanes.{one_of}
use Rattle.sha256_lanes.proofs.Messages.{block_taken, blocks_of, each_long, none_taken}
use Rattle.sha256_lanes.proofs.hashing.state_of_four.Goals as goal

pub loop-n-init : goal.loop-n-init
loop-n-init c j lt = none_taken (one_of j c.args.a.now c.args.b.now c.args.c.now c.args.d.now) _ (c.initial-state.ensures j lt)

pub loop-n-preserved : goal.loop-n-preserved
loop-n-preserved c j lt =
    let n = c.loop-n.n in
    let blocks = blocks_of (λ padded. take 64 (drop (n * 64) padded)) c.args.a.now c.args.b.now c.args.c.now c.args.d.now _ _ _ _
    c.block.ensures.value c.block-in-loop-n.ensures.value c.block-in-loop-n-2.ensures.value c.block-in-loop-n-3.ensures.value j lt in
    block_taken (one_of j c.args.a.now c.args.b.now c.args.c.now c.args.d.now) n _ _ _ (c.loop-n.invariant j lt) blocks (c.absorb.ensures j lt _ (c.begin_four.ensures j lt))

pub returns-clause-some : goal.returns-clause-some
returns-clause-some c = omega (arith, c.blocks-n-end.ensures.all, c.blocks-n-end.ensures.some)

pub returns-clause-each : goal.returns-clause-each
returns-clause-each c j lt =
    let n = c.loop-n.n in
    let all : length c.args.a.now ≡ 64 * n = omega (arith, c.loop-n.auto.n-end, c.loop-n-test.false, c.blocks-n-end.ensures.all) in
    let message = one_of j c.args.a.now c.args.b.now c.args.c.now c.args.d.now in
    let long = each_long (64 * n) c.args.a.now c.args.b.now c.args.c.now c.args.d.now all c.requires.b c.requires.c c.requires.d j lt in
    let blocks : n ≡ length message / 64 = omega (arith, long) in
    c.loop-n.invariant j lt ∙ ap (hash_after initial_hash_256 message) blocks
