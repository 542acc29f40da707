use Rattle.std.proofs.Common.{rules, ◌≡◌, ◌&&◌, true, false, refl}
use Rattle.lend_steps.specs.Holds.{can_hold, is_ordered, is_refused}
use Rattle.lend_steps.specs.Releases.{is_hold}
use Rattle.lend_steps.proofs.holds.to_hold_one.Goals as goal

pub returns-then-is_held : goal.returns-then-is_held
returns-then-is_held c =
    let can : can_hold c.args.page.now ≡ true = search rules in
    let is : (c.args.is_split && is_hold c.next-order.result) ≡ true = search rules in
    is_ordered c.next-order.result can c.next-order.ensures is refl

pub returns : goal.returns
returns c =
    let can : can_hold c.args.page.now ≡ true = search rules in
    let is : (c.args.is_split && is_hold c.next-order.result) ≡ false = search rules in
    is_refused c.next-order.result c.next-order.new.page c.next-order.new.part can c.next-order.ensures is c.tell.ensures.told refl
