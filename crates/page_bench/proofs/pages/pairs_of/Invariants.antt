use Rattle.std.proofs.Common.{◌≡◌, ◌≤◌, vec_len, vec_capacity}
use Rattle.page_digest.specs.Many.{AreTaken}
use Rattle.page_bench.proofs.pages.pairs_of.Given as goal

abbrev pub invariant-loop-n : goal.invariant-loop-n
invariant-loop-n l = AreTaken l._frames l.pairs.items × (vec_len l.pairs ≡ l._n) × (l.count ≤ vec_capacity l.pairs)
