use Rattle.std.proofs.Common.{◌≡◌, ◌∙◌, true, ap, subst, sym}
use Rattle.page_lender.specs.Decisions.{due, is_outcome, account, account_then}
use Rattle.page_lender.specs.Lender.{done_of}
use Rattle.page_lender.specs.Events.{DoneByEvents}
use Rattle.page_lender.proofs.Decided.{done_by_events}
use Rattle.page_lender.proofs.Outcomes.{done_account}
use Rattle.page_lender.proofs.page.PageLender.done.Goals as goal

pub returns-clause-events : goal.returns-clause-events
returns-clause-events c =
    let belief = c.args.self.now.belief in
    let is_one : is_outcome (due belief) c.args.outcome ≡ true = subst (λ o. is_outcome o c.args.outcome ≡ true) c.requires.order c.requires.outcome in
    let due_done : DoneByEvents belief c.args.order c.args.outcome (done_of belief c.args.outcome) =
    subst (λ o. DoneByEvents belief o c.args.outcome (done_of belief c.args.outcome)) (sym c.requires.order) (done_by_events belief c.args.outcome is_one) in
    subst (λ b. DoneByEvents belief c.args.order c.args.outcome b) (sym c.after-self.ensures) due_done

pub returns-clause-account : goal.returns-clause-account
returns-clause-account c =
    let belief = c.args.self.now.belief in
    ap account c.after-self.ensures ∙ done_account belief c.args.outcome ∙ ap (λ o. account_then o c.args.outcome (account belief)) (sym c.requires.order)
