use Rattle.std.proofs.Common.{◌≡◌, ◌∙◌, cond, not, ◌||◌, refl, ap, sym, subst}
use Rattle.page_lender.specs.Decisions.{account, due, is_busy, is_given, leads, moves, prepared, touches}
use Rattle.page_lender.specs.Events.{StaysRight}
use Rattle.page_lender.specs.Slots.{NamesOwn}
use Rattle.page_lender.specs.declared.bars.Bars.{Bars}
use Rattle.page_lender.specs.declared.belief.Belief.{Belief}
use Rattle.page_lender.specs.declared.order.Order.TheVariants.{Wait}
use Rattle.page_lender.proofs.Decided.{prepared_right}
use Rattle.page_lender.proofs.Ordered.{barred_leads, pinned_moves, quiet}
use Rattle.page_lender.proofs.Outcomes.{prepared_account}
use Rattle.page_lender.proofs.Slots.{due_names}
use Rattle.page_lender.proofs.page.PageLender.next.Goals as goal

pub returns : goal.returns
returns c =
    let bars : Bars = c.args.self.now.bars in
    let belief : Belief = c.args.self.now.belief in
    let order : c.due-order.result ≡ due (prepared bars belief) = c.due-order.ensures ∙ ap due c.prepared-self.ensures in
    record {
      is_due = order ∙ sym (ap (λ b. cond b Wait (due (prepared bars belief))) c.if-self.false);
      belief = c.prepared-self.ensures ∙ sym (ap (λ b. cond b belief (prepared bars belief)) c.if-self.false);
      ordered = c.is_given-self.ensures ∙ sym (ap (λ b. b || is_given c.due-order.result) c.if-self.false);
      bars = refl;
      given = λ h. c.due-order.ensures;
      names = subst (λ o. NamesOwn o c.prepared-self.result) (sym c.due-order.ensures) (due_names c.prepared-self.result);
      barred = λ h. ap leads order ∙ barred_leads bars belief h;
      pinned = λ h. ap moves order ∙ pinned_moves bars belief h;
      quiet = λ h g. ap touches order ∙ quiet bars belief (not (is_busy c.args.self.now)) h g;
      account = ap account c.prepared-self.ensures ∙ prepared_account bars belief;
      right = subst (λ b. StaysRight belief b) (sym c.prepared-self.ensures) (prepared_right bars belief);
    }
