use Rattle.std.proofs.Common.{◌≡◌, ◌∙◌, ◌+◌, ◌-◌, length, min, ap, sym, arith}
use Rattle.window_tables.proofs.Differences.{as_far}
use Rattle.window_tables.specs.Mappings.{mappings_from}
use Rattle.window_tables.proofs.mappings.mappings_at.Goals as goal

pub returns-clause-value : goal.returns-clause-value
returns-clause-value c =
    let e : c.loop-step.step ≡ min (c.args.count + 1) (length c.args.pages.now - c.args.first) = omega (arith, c.loop-step-test.false, c.loop-step.auto.step-end, c.places-step-end.ensures) in
    c.loop-step.invariant.value
    ∙ (ap (λ n. mappings_from c.args.lead c.args.parts.now c.args.pages.now c.args.first n) e ∙ sym (as_far c.args.lead c.args.parts.now c.args.pages.now c.args.first c.args.count))
