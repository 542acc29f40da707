use Rattle.std.proofs.Common.{refl}
use Rattle.fleet_census.specs.declared.entry.TheConstants.{AT_END}
use Rattle.fleet_census.proofs.Won.{alike_leaves}
use Rattle.fleet_census.proofs.tournament.Tournament.new.Goals as goal

pub returns : goal.returns
returns g c = (refl, alike_leaves c.args.files AT_END _ (c.in_ok-entries.ensures.items_if_clones_equal (λ y e. e)))
