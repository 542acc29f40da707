use Rattle.std.proofs.Common.{rules, ◌≡◌, true}
use Rattle.lend_steps.specs.Copies.{can_choose}
use Rattle.lend_steps.specs.Holds.{is_given_back}
use Rattle.lend_steps.proofs.holds.to_give_back_one.Goals as goal

pub returns : goal.returns
returns c =
    let can : can_choose c.args.facts.now c.args.is_split c.args.page.now ≡ true = search rules in
    let room : c.args.has_room ≡ true = search rules in
    is_given_back c.choose_for-order.result can room c.choose_for-order.ensures c.hold_answer.ensures
