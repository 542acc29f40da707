use Rattle.std.proofs.Common.{◌≡◌, List, length, map, vec_capacity, vec_len}
use Rattle.digest_text.specs.Fields.{Row}
use Rattle.digest_text.specs.Unread.{rows_left}
use Rattle.fleet_census.specs.Openings.{AreWhole, IsOpenTo}
use Rattle.fleet_census.specs.States.{AreChained, AreOwn, Said}
use Rattle.fleet_census.specs.Tournaments.{leaves}
use Rattle.fleet_census.proofs.open.open.Given as goal

abbrev pub invariant-loop-file : goal.invariant-loop-file
invariant-loop-file g l = record {
  files : l.tournament.files ≡ length l.fn.readers;
  readers : length l.readers ≡ length l.fn.readers;
  own : AreOwn (leaves l.tournament.files l.tournament.entries.items);
  zeros_len : vec_len l.zeros ≡ l.file;
  guests_len : vec_len l.guests ≡ l.file;
  zeros_room : vec_capacity l.zeros ≡ vec_capacity l.fn.zeros;
  guests_room : vec_capacity l.guests ≡ vec_capacity l.fn.guests;
  chained : (files : List Said) → length files ≡ length l.fn.readers → AreChained files 0 (leaves l.fn.tournament.files l.fn.tournament.entries.items)
      (map (rows_left {A = g.row.A.Denot} g.R.Read.remaining) l.fn.readers)
      → AreChained files l.file (leaves l.tournament.files l.tournament.entries.items) (map (rows_left {A = g.row.A.Denot} g.R.Read.remaining) l.readers);
  opened : (fleet : List (List Row)) → length fleet ≡ length l.fn.readers → AreWhole fleet (map (rows_left {A = g.row.A.Denot} g.R.Read.remaining) l.fn.readers)
      → IsOpenTo fleet l.file (leaves l.tournament.files l.tournament.entries.items) (map (rows_left {A = g.row.A.Denot} g.R.Read.remaining) l.readers) l.zeros.items l.guests.items l.opening;
}
