-- What of a fleet is reclaimed within its guests.
use Rattle.std.specs.Prelude.{◌-◌}
use Rattle.fleet_census.specs.declared.amount.Amount.{Amount}
use Rattle.fleet_census.specs.declared.total.FleetTotal.{FleetTotal}

-- What sharing within guests reclaims of the contents other than zeros: each is reclaimed with all its copies but one, and of these
-- only sharing between guests reclaims as many as guests have it, but one. The squares of what is left are at most the difference of
-- the squares.
abbrev pub within_of : FleetTotal → Amount
within_of total = record {
  zeros = 0;
  others = total.reclaimed.others - total.between.others;
  squares = total.reclaimed.squares - total.between.squares;
}
