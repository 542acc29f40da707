use Rattle.std.proofs.Common.{◌≡◌, ◌*◌, ◌<◌, vec_len}
use Rattle.fleet_census.specs.Tournaments.{AreWonBut, leaves}
use Rattle.fleet_census.proofs.tournament.replay.Given as goal

abbrev pub invariant-loop-at : goal.invariant-loop-at
invariant-loop-at g l = record {
  len : vec_len l.entries ≡ 2 * l.files;
  within : l.at < l.files;
  won : AreWonBut l.at l.files l.entries.items;
  leaves_stay : leaves l.files l.entries.items ≡ leaves l.files l.fn.entries.items;
}

abbrev pub decreases-loop-at : goal.decreases-loop-at
decreases-loop-at g l = l.at
