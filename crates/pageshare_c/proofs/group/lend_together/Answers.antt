use Rattle.pageshare_c.proofs.Groups.{listed_in_turn}
use Rattle.pageshare_c.proofs.group.lend_together.Goals as goal

pub returns : goal.returns
returns c = listed_in_turn c.args.pages.now _ c.lend_four_hashed.result _ _ c.told-pages c.lend_four_hashed.ensures.lends
