use Rattle.std.proofs.Common.{false, subst}
use Rattle.lend_steps.specs.Asks.{ToAsk, is_passing}
use Rattle.lend_steps.specs.Lists.{is_there}
use Rattle.page_holds.specs.Rows.{PageChanges}
use Rattle.window_tables.specs.Facts.{facts_at, only_called}
use Rattle.lend_steps.proofs.asks.to_ask_at.Goals as goal

pub returns : goal.returns
returns c =
    is_there
    (subst (λ r. PageChanges (λ x y p q. ToAsk (facts_at c.args.table.now c.args.pins.now (only_called false) c.args.number) r (is_passing c.args.config.now c.args.look c.args.lead c.args.wholes.now c.args.number x) c.to_ask_there.result x y p q) c.args.lead c.args.number c.args.pages.now c.to_ask_there.new.pages c.args.parts.now c.to_ask_there.new.parts)
    c.may_map-room.ensures
    (subst (λ f. PageChanges (λ x y p q. ToAsk f c.may_map-room.result (is_passing c.args.config.now c.args.look c.args.lead c.args.wholes.now c.args.number x) c.to_ask_there.result x y p q) c.args.lead c.args.number c.args.pages.now c.to_ask_there.new.pages c.args.parts.now c.to_ask_there.new.parts)
    c.facts_of-facts.ensures c.to_ask_there.ensures))
