use Rattle.std.proofs.Common.{arith}
use Rattle.std.proofs.lemmas.List.{get_or_read}
use Rattle.fleet_census.specs.Tournaments.{nothing}
use Rattle.fleet_census.proofs.Won.{first_is}
use Rattle.fleet_census.proofs.tournament.Tournament.first.Goals as goal

pub returns : goal.returns
returns g c =
    let self = c.args.self.now in
    first_is self.files self.entries.items self.len self.won self.some c.index.result.now (get_or_read self.entries.items 1 c.index.result.now (omega (arith, self.len, self.some)) c.index.ensures nothing)
