use Rattle.std.proofs.Common.{◌+◌}
use Rattle.window_tables.specs.Facts.{facts_at}
use Rattle.window_tables.specs.Homes.{Became}
use Rattle.window_tables.proofs.Homing.{More, step_more}
use Rattle.window_tables.proofs.homes.steps.step_each.Goals as goal

pub loop-n-preserved : goal.loop-n-preserved
loop-n-preserved c =
    let m : More (λ i. Became c.args.step (facts_at c.args.table.now c.args.pins.now c.args.why.now (c.args.first + i))) c.args.lead c.args.first c.loop-n.n c.args.pages.now c.step_at.new.pages c.args.parts.now c.step_at.new.parts =
    step_more (λ i. Became c.args.step (facts_at c.args.table.now c.args.pins.now c.args.why.now (c.args.first + i))) c.args.lead c.args.first c.loop-n.n c.args.pages.now c.loop-n.pages c.step_at.new.pages c.args.parts.now c.loop-n.parts c.step_at.new.parts c.step_at.result
    c.step_at.ensures.changes c.step_at.ensures.stays c.step_at.ensures.same c.step_at.ensures.same_parts c.loop-n.invariant.changed c.loop-n.invariant.counted c.loop-n.invariant.parts in
    record { changed = m.changed; counted = m.counted; parts = m.parted }
