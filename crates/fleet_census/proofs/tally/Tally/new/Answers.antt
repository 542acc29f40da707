use Rattle.std.proofs.Common.{rules, List, refl, ap, ◌∙◌}
use Rattle.fleet_census.specs.Pairs.{pair_at}
use Rattle.fleet_census.specs.declared.pair.FleetPair.{FleetPair}
use Rattle.fleet_census.proofs.Paired.{none_paired}
use Rattle.fleet_census.proofs.tally.Tally.new.Goals as goal

pub returns-clause-new : goal.returns-clause-new
returns-clause-new g c = record {
  none = search rules;
  room = search rules;
  total = refl;
  classes = search rules;
  pairless = λ file other. ap (λ (rows : List (List FleetPair)). pair_at rows file other) c.in_ok-pairs.ensures ∙ none_paired c.args.pairs c.args.guests file other;
  weightless = refl;
}
