use Rattle.std.proofs.Common.{arith}
use Rattle.sha256_lanes.proofs.Words.{sum_at, sums}
use Rattle.sha256_lanes.proofs.hashing.sum.Goals as goal

pub returns : goal.returns
returns g c j lt =
    let word = g.V.Vector.word in
    let x = c.args.x.now in
    let y = c.args.y.now in
    sums word j x y _ _ _ _ _ _ _ _
    (sum_at word j x y 0 _ _ _ (omega (arith, c.type_inv.x)) (omega (arith, c.type_inv.y)) (c.add.ensures j lt))
    (sum_at word j x y 1 _ _ _ (omega (arith, c.type_inv.x)) (omega (arith, c.type_inv.y)) (c.add-2.ensures j lt))
    (sum_at word j x y 2 _ _ _ (omega (arith, c.type_inv.x)) (omega (arith, c.type_inv.y)) (c.add-3.ensures j lt))
    (sum_at word j x y 3 _ _ _ (omega (arith, c.type_inv.x)) (omega (arith, c.type_inv.y)) (c.add-4.ensures j lt))
    (sum_at word j x y 4 _ _ _ (omega (arith, c.type_inv.x)) (omega (arith, c.type_inv.y)) (c.add-5.ensures j lt))
    (sum_at word j x y 5 _ _ _ (omega (arith, c.type_inv.x)) (omega (arith, c.type_inv.y)) (c.add-6.ensures j lt))
    (sum_at word j x y 6 _ _ _ (omega (arith, c.type_inv.x)) (omega (arith, c.type_inv.y)) (c.add-7.ensures j lt))
    (sum_at word j x y 7 _ _ _ (omega (arith, c.type_inv.x)) (omega (arith, c.type_inv.y)) (c.add-8.ensures j lt))
