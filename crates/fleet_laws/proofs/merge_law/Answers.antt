use Rattle.fleet_laws.proofs.Merges.{merge_matches}
use Rattle.fleet_laws.proofs.merge_law.Goals as goal

pub returns : goal.returns
returns g c = merge_matches g.S.PageSource.pages
