use Rattle.std.proofs.Common.{◌≡◌, ◌+◌, ◌-◌, ◌*◌, ◌/◌, length, take, arith}
use Rattle.std.proofs.lemmas.List.{take_all}
use Rattle.page_digest.proofs.Hashed.{hashes_on}
use Rattle.page_digest.proofs.part.push_hashes.Goals as goal

pub loop-n-preserved : goal.loop-n-preserved
loop-n-preserved g c =
    let so_far = c.loop-n.invariant in
    let n = c.loop-n.n in
    let next : 8 * (n + 1) ≡ 8 * n + 8 = omega arith in
    let width : 8 * n + 8 - 8 * n ≡ 8 = omega arith in
    record {
      items = rw next (hashes_on g.H.HashFunction.hash_of c.args.frames.now c.args.pairs.now (8 * n) 8 _ _ _ so_far.items (rw width at c.push_eight.ensures.items));
      len = omega (arith, so_far.len, c.push_eight.ensures.len);
      capacity = omega (arith, so_far.capacity, c.push_eight.ensures.capacity);
    }

pub returns-clause-items : goal.returns-clause-items
returns-clause-items g c =
    let pairs = c.args.pairs.now in
    let done = 8 * c.loop-n.n in
    let all : done + (length pairs - done) ≡ length pairs = omega (arith, c.loop-n-test.false, c.loop-n.auto.n-end) in
    let n_is : c.loop-n.n ≡ length pairs / 8 = omega (arith, c.loop-n-test.false, c.loop-n.auto.n-end) in
    let whole : take (length pairs) pairs ≡ pairs = take_all (length pairs) pairs (omega arith) in
    let rest = hashes_on g.H.HashFunction.hash_of c.args.frames.now pairs done (length pairs - done) _ _ _ c.loop-n.invariant.items (rw (← n_is) at c.push_rest.ensures.items) in
    rw (all, whole) at rest
