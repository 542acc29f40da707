use Rattle.fleet_laws.proofs.Merges.{census_matches}
use Rattle.fleet_laws.proofs.digest_law.Goals as goal

pub returns : goal.returns
returns g c = census_matches g.S.PageSource.pages
