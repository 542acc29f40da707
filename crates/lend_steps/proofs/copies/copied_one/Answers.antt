use Rattle.std.proofs.Common.{◌≡◌, refl, subst}
use Rattle.lend_steps.specs.Copies.{CameOfCopy, is_good, is_changed, is_zeros, is_nothing}
use Rattle.lend_steps.specs.declared.copies.CopyOutcome.TheVariants as CopyOutcome
use Rattle.lend_steps.proofs.copies.copied_one.Goals as goal

pub returns-in-Nothing : goal.returns-in-Nothing
returns-in-Nothing c =
    let h = c.in-Nothing.is in
    let e : CopyOutcome.Nothing ≡ c.args.came = cc in
    subst (λ k. CameOfCopy c.args.facts.now 0 c.args.page.now c.args.page.now c.args.part.now c.args.part.now k) e (is_nothing refl refl refl)

pub returns-in-Good : goal.returns-in-Good
returns-in-Good c =
    let h = c.in-Good.is in
    let e : CopyOutcome.Good ≡ c.args.came = cc in
    subst (λ k. CameOfCopy c.args.facts.now c.lend_answer.result c.args.page.now c.copied_then.new.page c.args.part.now c.copied_then.new.part k) e
    (is_good c.copied_then.result c.copied_then.ensures c.lend_answer.ensures)

pub returns-in-Changed : goal.returns-in-Changed
returns-in-Changed c =
    let h = c.in-Changed.is in
    let e : CopyOutcome.Changed ≡ c.args.came = cc in
    subst (λ k. CameOfCopy c.args.facts.now 0 c.args.page.now c.changed_then.new.page c.args.part.now c.changed_then.new.part k) e (is_changed c.changed_then.ensures refl)

pub returns-in-Zeros : goal.returns-in-Zeros
returns-in-Zeros c =
    let h = c.in-Zeros.is in
    let e : CopyOutcome.Zeros ≡ c.args.came = cc in
    subst (λ k. CameOfCopy c.args.facts.now 0 c.args.page.now c.tell.new.page c.args.part.now c.tell.new.part k) e (is_zeros c.tell.ensures.told refl)
