use Rattle.std.proofs.Common.{subst}
use Rattle.lend_steps.specs.Asks.{Answered}
use Rattle.lend_steps.specs.Lists.{is_there}
use Rattle.page_holds.specs.Rows.{PageChanges}
use Rattle.window_tables.specs.Mappings.{is_whole}
use Rattle.lend_steps.proofs.asks.answered_at.Goals as goal

pub returns-clause-answer : goal.returns-clause-answer
returns-clause-answer c =
    is_there
    (subst (λ r. PageChanges (λ x y p q. Answered (is_whole c.args.lead c.args.wholes.now c.args.place) c.args.is_other r c.args.fingerprint c.answered_there.result x y p q) c.args.lead c.args.place c.args.pages.now c.answered_there.new.pages c.args.parts.now c.answered_there.new.parts)
    c.has_room-room.ensures.room
    (subst (λ w. PageChanges (λ x y p q. Answered w c.args.is_other c.has_room-room.result c.args.fingerprint c.answered_there.result x y p q) c.args.lead c.args.place c.args.pages.now c.answered_there.new.pages c.args.parts.now c.answered_there.new.parts)
    c.is_whole-whole.ensures c.answered_there.ensures.answer))
