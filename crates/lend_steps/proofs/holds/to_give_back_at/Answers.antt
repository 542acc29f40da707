use Rattle.std.proofs.Common.{false, not, subst, ap}
use Rattle.lend_steps.specs.Holds.{ToGiveBack}
use Rattle.lend_steps.specs.Lists.{is_there}
use Rattle.page_holds.specs.Rows.{PageChanges}
use Rattle.window_tables.specs.Facts.{facts_at, only_called}
use Rattle.window_tables.specs.Mappings.{is_whole}
use Rattle.lend_steps.proofs.holds.to_give_back_at.Goals as goal

pub returns : goal.returns
returns c =
    is_there
    (subst (λ r. PageChanges (λ x y p q. ToGiveBack (facts_at c.args.table.now c.args.pins.now (only_called false) c.args.number) (not (is_whole c.args.lead c.args.wholes.now c.args.number)) r c.to_give_back_there.result x y p q) c.args.lead c.args.number c.args.pages.now c.to_give_back_there.new.pages c.args.parts.now c.to_give_back_there.new.parts)
    c.has_room_for_zeros-room.ensures
    (subst (λ s. PageChanges (λ x y p q. ToGiveBack (facts_at c.args.table.now c.args.pins.now (only_called false) c.args.number) s c.has_room_for_zeros-room.result c.to_give_back_there.result x y p q) c.args.lead c.args.number c.args.pages.now c.to_give_back_there.new.pages c.args.parts.now c.to_give_back_there.new.parts)
    (ap not c.is_whole-split.ensures)
    (subst (λ f. PageChanges (λ x y p q. ToGiveBack f (not c.is_whole-split.result) c.has_room_for_zeros-room.result c.to_give_back_there.result x y p q) c.args.lead c.args.number c.args.pages.now c.to_give_back_there.new.pages c.args.parts.now c.to_give_back_there.new.parts)
    c.facts_of-facts.ensures c.to_give_back_there.ensures)))
