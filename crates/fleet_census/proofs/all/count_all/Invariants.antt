use Rattle.std.proofs.Common.{◌≡◌, ◌≤◌, List, length, map, vec_capacity, vec_len}
use Rattle.digest_text.specs.Fields.{Row}
use Rattle.digest_text.specs.Unread.{rows_left}
use Rattle.fleet_census.specs.Gathers.{AreZeros}
use Rattle.fleet_census.specs.Merged.{IsAt}
use Rattle.fleet_census.specs.Pairs.{row_lengths, rows_of}
use Rattle.fleet_census.specs.States.{AreBehind, AreChained, AreOwn, Said}
use Rattle.fleet_census.specs.Tallies.{AreTallied}
use Rattle.fleet_census.specs.Tournaments.{leaves}
use Rattle.fleet_census.proofs.all.count_all.Given as goal

abbrev pub invariant-loop-turn : goal.invariant-loop-turn
invariant-loop-turn g l = record {
  files : l.tournament.files ≡ length l.fn.readers;
  readers : length l.readers ≡ length l.fn.readers;
  own : AreOwn (leaves l.tournament.files l.tournament.entries.items);
  room : length l.fn.readers ≤ vec_capacity l.holders;
  guests : vec_len l.tally.guests ≡ length l.fn.readers;
  classes : vec_len l.tally.classes ≡ 65;
  lengths : row_lengths (rows_of l.tally.pairs.items) ≡ row_lengths (rows_of l.fn.tally.pairs.items);
  chained : (files : List Said) → length files ≡ length l.fn.readers → AreChained files (length files) (leaves l.fn.tournament.files l.fn.tournament.entries.items)
      (map (rows_left {A = g.row.A.Denot} g.R.Read.remaining) l.fn.readers)
      → AreChained files (length files) (leaves l.tournament.files l.tournament.entries.items) (map (rows_left {A = g.row.A.Denot} g.R.Read.remaining) l.readers);
  counted : (fleet : List (List Row)) → length fleet ≡ length l.fn.readers → AreZeros fleet l.zeros
      → AreBehind fleet (λ file. 0) (leaves l.fn.tournament.files l.fn.tournament.entries.items) (map (rows_left {A = g.row.A.Denot} g.R.Read.remaining) l.fn.readers)
      → AreTallied fleet l.every 0 l.fn.tally
      → IsAt fleet l.every l._turn (leaves l.tournament.files l.tournament.entries.items) (map (rows_left {A = g.row.A.Denot} g.R.Read.remaining) l.readers) l.tally;
}
