use Rattle.pageshare_c.proofs.Groups.{four_in_turn}
use Rattle.pageshare_c.proofs.group.lend_each.Goals as goal

pub returns : goal.returns
returns c = four_in_turn c.args.pages.now _ _ _ _ _ _ _ _ _ _ c.told-pages c.lend_one-one.ensures c.lend_one-two.ensures c.lend_one-three.ensures c.lend_one-four.ensures
