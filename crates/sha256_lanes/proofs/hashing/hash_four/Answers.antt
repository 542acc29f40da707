use Rattle.std.proofs.Common.{◌≤◌, ℕ, ◌<◌, arith, length, refl}
use Rattle.sha256_lanes.specs.Hashes.{leading_number}
use Rattle.sha256_lanes.specs.Lanes.{one_of}
use Rattle.sha256_lanes.proofs.Messages.{each_long, four_of, number_is}
use Rattle.sha256_lanes.proofs.hashing.hash_four.Goals as goal

pub returns : goal.returns
returns c =
    let a = c.args.a.now in
    let b = c.args.b.now in
    let third = c.args.c.now in
    let d = c.args.d.now in
    let long : (j : ℕ) → j < 4 → 64 ≤ length (one_of j a b third d) =
    λ j lt. omega (arith, c.state_of_four.ensures.some, each_long (length a) a b third d refl c.requires.b c.requires.c c.requires.d j lt) in
    four_of leading_number a b third d c.leading_numbers.result c.leading_numbers.ensures.len
    (λ j lt. number_is (one_of j a b third d) _ _ (long j lt) (c.state_of_four.ensures.each j lt) (c.leading_numbers.ensures.each j lt))
