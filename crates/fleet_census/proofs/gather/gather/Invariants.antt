use Rattle.std.proofs.Common.{◌≡◌, ◌<◌, ◌≤◌, List, length, map, vec_capacity, vec_len}
use Rattle.std.specs.Prelude.{All}
use Rattle.digest_text.specs.Fields.{Row}
use Rattle.digest_text.specs.Unread.{rows_left}
use Rattle.fleet_census.specs.Gathers.{AreZeros, IsSoFar}
use Rattle.fleet_census.specs.States.{AreBehind, AreChained, AreOwn, Said}
use Rattle.fleet_census.specs.Tournaments.{leaves}
use Rattle.fleet_census.proofs.gather.gather.Given as goal

abbrev pub invariant-loop-turn : goal.invariant-loop-turn
invariant-loop-turn g l = record {
  files : l.tournament.files ≡ length l.fn.readers;
  readers : length l.readers ≡ length l.fn.readers;
  own : AreOwn (leaves l.tournament.files l.tournament.entries.items);
  room : vec_capacity l.holders ≡ vec_capacity l.fn.holders;
  len : vec_len l.holders ≤ l.turn;
  holders : All (λ holder. holder.file < length l.fn.readers) l.holders.items;
  zero : l.content.zero ≤ l.content.copies;
  few : l.content.holders ≤ l.turn;
  chained : (files : List Said) → length files ≡ length l.fn.readers → AreChained files (length files) (leaves l.fn.tournament.files l.fn.tournament.entries.items)
      (map (rows_left {A = g.row.A.Denot} g.R.Read.remaining) l.fn.readers)
      → AreChained files (length files) (leaves l.tournament.files l.tournament.entries.items) (map (rows_left {A = g.row.A.Denot} g.R.Read.remaining) l.readers);
  gathered : (fleet : List (List Row)) → length fleet ≡ length l.fn.readers → AreZeros fleet l.zeros
      → AreBehind fleet (λ file. l.digest) (leaves l.fn.tournament.files l.fn.tournament.entries.items) (map (rows_left {A = g.row.A.Denot} g.R.Read.remaining) l.fn.readers)
      → IsSoFar fleet l.digest l.turn (leaves l.tournament.files l.tournament.entries.items) (map (rows_left {A = g.row.A.Denot} g.R.Read.remaining) l.readers) l.holders.items l.content;
}
