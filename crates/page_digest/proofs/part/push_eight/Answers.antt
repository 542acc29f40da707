use Rattle.std.proofs.Common.{List, ℕ, ap, ◌++◌}
use Rattle.page_digest.proofs.Eights.{eight_listed}
use Rattle.page_digest.proofs.part.push_eight.Goals as goal

pub returns-clause-items : goal.returns-clause-items
returns-clause-items g c =
    rw (c.append.ensures.items, c.hash_eight-numbers.ensures)
    (ap (λ (numbers : List ℕ). c.args.hashes.now.items ++ numbers)
    (eight_listed g.H.HashFunction.hash_of c.args.frames.now _ _ _ _ _ _ _ _ c.args.pairs.now c.requires.eight
    c.bytes.ensures.value c.bytes-2.ensures.value c.bytes-3.ensures.value c.bytes-4.ensures.value c.bytes-5.ensures.value c.bytes-6.ensures.value c.bytes-7.ensures.value c.bytes-8.ensures.value))
