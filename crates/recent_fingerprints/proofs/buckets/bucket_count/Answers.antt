use Rattle.std.proofs.Common.{◌≡◌, ℕ, ◌+◌, ◌-◌, ◌*◌, ◌^◌, ◌<◌, ◌≤◌, arith, ap}
use Prim.Native.Nat.{suc, zero}
use Rattle.std.proofs.Math.Nat.{two-pow-succ}
use Rattle.recent_fingerprints.proofs.buckets.bucket_count.Goals as goal

halved : (n k : ℕ) → n * 2 ^ suc k ≡ 2 ^ 64 → n * 2 * 2 ^ k ≡ 2 ^ 64
halved n k h = let e = two-pow-succ k in let f : n * 2 ^ suc k ≡ n * (2 ^ k + 2 ^ k) = ap (λ x. n * x) e in omega (arith, h, f)

more-bits : (n k places : ℕ) → n * 2 ^ k ≡ 2 ^ 64 → n < places → places ≤ 2 ^ 31 → 2 ≤ n → n * 2 * 2 ^ (k - 1) ≡ 2 ^ 64
more-bits n zero places h lt few two = absurd (omega arith)
more-bits n (suc k) places h lt few two = let e : suc k - 1 ≡ k = omega arith in rw e (halved n k h)

pub loop-count-preserved : goal.loop-count-preserved
loop-count-preserved c =
    let i = c.loop-count.invariant in
    (omega arith, omega arith, more-bits c.loop-count.count c.loop-count.shift c.args.places i.2 c.loop-count-test.true c.requires i.0, λ h. omega arith)
