use Rattle.std.proofs.Common.{ℕ, ◌*◌, refl, ap, ◌∙◌, sym, arith}
use Prim.Native.Nat.{suc}
use Rattle.std.proofs.Math.Nat.{pow-suc}
use Rattle.share_table.specs.Buckets.{IsPowerOfTwo}
use Rattle.share_table.proofs.buckets.bucket_count.Goals as goal

twice : (n : ℕ) → IsPowerOfTwo n → IsPowerOfTwo (n * 2)
twice n p = record { exponent = suc p.exponent; is = ap (λ x. x * 2) p.is ∙ sym (pow-suc 2 p.exponent) }

pub loop-buckets-init : goal.loop-buckets-init
loop-buckets-init c = record { power = record { exponent = 0; is = refl }; some = omega arith; most = omega arith }

pub loop-buckets-preserved : goal.loop-buckets-preserved
loop-buckets-preserved c = record { power = twice c.loop-buckets.buckets c.loop-buckets.invariant.power; some = omega arith; most = omega arith }

pub returns : goal.returns
returns c = record { power = c.loop-buckets.invariant.power; within = c.loop-buckets.invariant.most; greatest = omega arith }
