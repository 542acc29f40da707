use Rattle.std.proofs.Common.{◌≡◌, ◌+◌, ◌-◌, ◌*◌, ◌/◌, length, take, arith}
use Rattle.std.proofs.lemmas.List.{take_all}
use Rattle.guest_digests.proofs.Kept.{kept_on}
use Rattle.guest_digests.proofs.hashed.push_digests.Goals as goal

pub loop-n-preserved : goal.loop-n-preserved
loop-n-preserved g c =
    let n = c.loop-n.n in
    let next : 4 * (n + 1) ≡ 4 * n + 4 = omega arith in
    let width : 4 * n + 4 - 4 * n ≡ 4 = omega arith in
    rw next (kept_on c.args.sampling c.args.pages.now (4 * n) 4 _ _ _ c.loop-n.invariant (rw width at c.in_ok-push_four.ensures))

pub returns : goal.returns
returns g c =
    let pages = c.args.pages.now in
    let done = 4 * c.loop-n.n in
    let all : done + (length pages - done) ≡ length pages = omega (arith, c.loop-n-test.false, c.loop-n.auto.n-end) in
    let n_is : c.loop-n.n ≡ length pages / 4 = omega (arith, c.loop-n-test.false, c.loop-n.auto.n-end) in
    let whole : take (length pages) pages ≡ pages = take_all (length pages) pages (omega arith) in
    rw (all, whole) at (kept_on c.args.sampling pages done (length pages - done) _ _ _ c.loop-n.invariant (rw (← n_is) at c.in_ok-push_each.ensures))
