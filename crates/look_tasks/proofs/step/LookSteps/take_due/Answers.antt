use Rattle.std.proofs.Common.{◌∙◌, ◌-◌, ap, take}
use Rattle.look_tasks.proofs.Popped.{popped}
use Rattle.look_tasks.proofs.step.LookSteps.take_due.Goals as goal

pub returns-clause-steps : goal.returns-clause-steps
returns-clause-steps c =
    ap (λ rs. record { parts = c.args.self.now.parts; next_part = c.args.self.now.next_part; returns = rs })
    (ap (λ xs. take (c.used-used.result - 1) xs) c.rotate_left.ensures.after
    ∙ popped c.args.self.now.returns c.args.self.now.count c.used-used.result c.args.now _ c.used-used.ensures.used c.if-used-eq0.false c.if-now-first.false)
