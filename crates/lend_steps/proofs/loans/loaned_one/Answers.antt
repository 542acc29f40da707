use Rattle.std.proofs.Common.{◌≡◌, ◌∙◌, refl, subst, ap}
use Rattle.std.specs.Prelude.{nat_lt}
use Rattle.lend_steps.specs.Loans.{CameOfLoan, loan_answer, is_unheard, is_without_frame, is_without_slot, is_given}
use Rattle.lend_steps.specs.declared.loans.LoanReply.TheVariants.{Unheard, NoFrame, NoSlot, Given}
use Rattle.lend_steps.proofs.loans.loaned_one.Goals as goal

pub returns-in-Unheard : goal.returns-in-Unheard
returns-in-Unheard c =
    let h = c.in-Unheard.is in
    let e : Unheard ≡ c.args.reply = cc in
    subst (λ k. CameOfLoan c.args.frames 0 c.args.page.now c.tell.new.page c.args.part.now c.tell.new.part k) e (is_unheard c.tell.ensures.told refl)

pub returns-in-NoFrame : goal.returns-in-NoFrame
returns-in-NoFrame c =
    let h = c.in-NoFrame.is in
    let e : NoFrame ≡ c.args.reply = cc in
    subst (λ k. CameOfLoan c.args.frames 2 c.args.page.now c.not_lent.new.page c.args.part.now c.not_lent.new.part k) e (is_without_frame c.not_lent.ensures refl)

pub returns-in-NoSlot : goal.returns-in-NoSlot
returns-in-NoSlot c =
    let h = c.in-NoSlot.is in
    let e : NoSlot ≡ c.args.reply = cc in
    subst (λ k. CameOfLoan c.args.frames 4 c.args.page.now c.not_lent-in-NoSlot.new.page c.args.part.now c.not_lent-in-NoSlot.new.part k) e (is_without_slot c.not_lent-in-NoSlot.ensures refl)

pub returns-in-Given : goal.returns-in-Given
returns-in-Given c =
    let h = c.in-Given.is in
    let e : Given c.in-Given.slot c.in-Given.frame ≡ c.args.reply = cc in
    subst (λ k. CameOfLoan c.args.frames c.loan_answer.result c.args.page.now c.tell-is_taken.new.page c.args.part.now c.tell-is_taken.new.part k) e
    (is_given c.in-Given.slot c.in-Given.frame c.tell-is_taken.ensures.told
    (c.loan_answer.ensures ∙ ap (λ t. loan_answer t (nat_lt c.in-Given.frame c.args.frames)) c.tell-is_taken.ensures.takes))
