use Rattle.std.proofs.Common.{◌≡◌, ◌<◌, ℕ, [], length, take, get_or}
use Rattle.fleet_census.specs.Holders.{AreRising, found}
use Rattle.fleet_census.specs.Pairs.{pair_after, pair_at, row_lengths, rows_of}
use Rattle.fleet_census.proofs.pair.count_pairs.Given as goal

abbrev pub invariant-loop-n : goal.invariant-loop-n
invariant-loop-n g l = record {
  lengths : row_lengths (rows_of l.rows.items) ≡ row_lengths (rows_of l.fn.rows.items);
  counted : AreRising l.holders → (file other : ℕ) → other < file → other < length (get_or (rows_of l.fn.rows.items) file [])
      → pair_at (rows_of l.rows.items) file other
      ≡ pair_after l.content (pair_at (rows_of l.fn.rows.items) file other) (found file (take l.n l.holders)) (found other l.holders);
}
