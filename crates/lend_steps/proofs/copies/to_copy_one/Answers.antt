use Rattle.std.proofs.Common.{rules, ◌≡◌, ◌∙◌, true, ap}
use Rattle.lend_steps.specs.Copies.{can_choose, copy_answer, is_chosen}
use Rattle.lend_steps.proofs.copies.to_copy_one.Goals as goal

pub returns : goal.returns
returns c =
    let e : can_choose c.args.facts.now c.args.is_ready c.args.page.now ≡ true = search rules in
    is_chosen c.choose_for-order.result e c.choose_for-order.ensures
    (c.copy_answer.ensures ∙ ap (λ k. copy_answer c.choose_for-order.result k) c.check_of-check.ensures)
