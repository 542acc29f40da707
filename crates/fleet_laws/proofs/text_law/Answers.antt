use Rattle.fleet_laws.proofs.Texts.{texts_match}
use Rattle.fleet_laws.proofs.text_law.Goals as goal

pub returns : goal.returns
returns g c = texts_match g.S.PageSource.is_steady g.S.PageSource.pages
