use Rattle.pageshare_c.proofs.Groups.{eight_in_turn}
use Rattle.pageshare_c.proofs.group.lend_eight.Goals as goal

pub returns : goal.returns
returns c =
    eight_in_turn c.args.pages.now _ c.lend_four_hashed-first.result c.lend_four_hashed-last.result _ _ _ _ c.told-pages c.lend_four_hashed-first.ensures.lends
    c.lend_four_hashed-last.ensures.lends
