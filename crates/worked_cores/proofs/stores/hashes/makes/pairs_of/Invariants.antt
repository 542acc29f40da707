use Rattle.std.proofs.Common.{◌≡◌, ◌≤◌, vec_len, vec_capacity}
use Rattle.page_digest.specs.Many.{AreTaken}
use Rattle.worked_cores.proofs.stores.hashes.makes.pairs_of.Given as goal

abbrev pub invariant-loop-n : goal.invariant-loop-n
invariant-loop-n g l = record {
  taken : AreTaken l.two.frames l.pairs.items;
  len : vec_len l.pairs ≡ l.n;
  room : l.count ≤ vec_capacity l.pairs;
}
