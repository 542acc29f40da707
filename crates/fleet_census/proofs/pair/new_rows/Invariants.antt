use Rattle.std.proofs.Common.{◌≡◌, ◌≤◌, vec_capacity, vec_len}
use Rattle.fleet_census.specs.Pairs.{empty_rows, rows_of}
use Rattle.fleet_census.proofs.pair.new_rows.Given as goal

abbrev pub invariant-loop-before : goal.invariant-loop-before
invariant-loop-before g l = record {
  rows : rows_of l.rows.items ≡ empty_rows l.before;
  len : vec_len l.rows ≡ l.before;
  room : l.guests ≤ vec_capacity l.rows;
}
