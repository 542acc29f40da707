use Rattle.std.proofs.Common.{◌++◌, List, ap, ◌∙◌}
use Rattle.page_model.specs.declared.request.Request.{Request}
use Rattle.share_rings.specs.Numbers.{number_of, sequential_number, random_number}
use Rattle.script_text.specs.Works.{requests_of}
use Rattle.script_text.proofs.Works.{proposals_same}
use Rattle.script_text.proofs.fill.add.Goals as goal

pub returns-in_ok-push-in-Asks-clause-items : goal.returns-in_ok-push-in-Asks-clause-items
unfolding requests_of
returns-in_ok-push-in-Asks-clause-items g c = rw c.in-Asks.is c.in_ok-push-in-Asks.ensures.items

pub returns-in_ok-add_scan-in-ScansInOrder-clause-items : goal.returns-in_ok-add_scan-in-ScansInOrder-clause-items
unfolding requests_of
returns-in_ok-add_scan-in-ScansInOrder-clause-items g c =
    rw c.in-ScansInOrder.is (c.in_ok-add_scan-in-ScansInOrder.ensures.items
    ∙ ap (λ (xs : List Request). c.args.script.now.items ++ xs) (proposals_same (number_of c.sequential.result) (sequential_number c.args.pages) c.in-ScansInOrder.n c.sequential.ensures))

pub returns-in_ok-add_scan-in-ScansAtRandom-clause-items : goal.returns-in_ok-add_scan-in-ScansAtRandom-clause-items
unfolding requests_of
returns-in_ok-add_scan-in-ScansAtRandom-clause-items g c =
    rw c.in-ScansAtRandom.is (c.in_ok-add_scan-in-ScansAtRandom.ensures.items
    ∙ ap (λ (xs : List Request). c.args.script.now.items ++ xs) (proposals_same (number_of c.random.result) (random_number c.in-ScansAtRandom.seed c.args.pages) c.in-ScansAtRandom.n c.random.ensures))
