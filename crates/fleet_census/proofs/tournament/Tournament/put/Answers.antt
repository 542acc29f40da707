use Rattle.std.proofs.Common.{◌∙◌}
use Rattle.std.proofs.lemmas.List.{drop-set-add}
use Rattle.fleet_census.proofs.Won.{put_wrong}
use Rattle.fleet_census.proofs.tournament.Tournament.put.Goals as goal

pub replay-requires-clause-won : goal.replay-requires-clause-won
replay-requires-clause-won g c = let self = c.args.self.now in put_wrong self.entries.items self.files c.args.file c.args.entry self.won self.len

pub returns-clause-leaves : goal.returns-clause-leaves
returns-clause-leaves g c = let self = c.args.self.now in c.replay.ensures.leaves ∙ drop-set-add self.files self.entries.items c.args.file c.args.entry
