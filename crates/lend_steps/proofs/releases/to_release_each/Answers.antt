use Rattle.std.proofs.Common.{◌∙◌, ◌+◌, length, subst, refl, arith}
use Rattle.std.specs.Prelude.{false}
use Rattle.lend_steps.proofs.Turns.{Keeps, finds_keeps}
use Rattle.lend_steps.specs.Releases.{FindsAt, begins, goes_on}
use Rattle.window_tables.specs.Facts.{facts_at, only_called}
use Rattle.lend_steps.proofs.releases.to_release_each.Goals as goal

pub loop-step-init : goal.loop-step-init
loop-step-init c = record { found = begins; room = omega arith; counted = λ h. h; parts = c.requires.parts; long = refl; many = refl }

pub loop-step-preserved : goal.loop-step-preserved
loop-step-preserved c =
    let its : FindsAt (facts_at c.args.table.now c.args.pins.now (only_called false) (c.args.first + c.loop-step.step)) c.args.pins.now c.args.lead (c.args.first + c.loop-step.step) (length c.args.places.now) c.loop-step.count c.find_at-count.result c.loop-step.pages c.find_at-count.new.pages c.loop-step.parts c.find_at-count.new.parts c.loop-step.places c.find_at-count.new.places =
    subst (λ r. FindsAt (facts_at c.args.table.now c.args.pins.now (only_called false) (c.args.first + c.loop-step.step)) c.args.pins.now c.args.lead (c.args.first + c.loop-step.step) r c.loop-step.count c.find_at-count.result c.loop-step.pages c.find_at-count.new.pages c.loop-step.parts c.find_at-count.new.parts c.loop-step.places c.find_at-count.new.places)
    c.loop-step.invariant.many c.find_at-count.ensures.found in
    let k : Keeps c.args.lead c.loop-step.pages c.find_at-count.new.pages c.loop-step.parts c.find_at-count.new.parts =
    finds_keeps (facts_at c.args.table.now c.args.pins.now (only_called false) (c.args.first + c.loop-step.step)) c.args.pins.now c.args.lead (c.args.first + c.loop-step.step) (length c.args.places.now) c.loop-step.count c.find_at-count.result c.loop-step.pages c.find_at-count.new.pages c.loop-step.parts c.find_at-count.new.parts c.loop-step.places c.find_at-count.new.places its in
    record {
      found = goes_on c.loop-step.step c.loop-step.count c.find_at-count.result c.loop-step.pages c.find_at-count.new.pages c.loop-step.parts c.find_at-count.new.parts c.loop-step.places c.find_at-count.new.places c.loop-step.invariant.found its;
      room = omega (arith, c.find_at-count.ensures.room, c.loop-step.invariant.many);
      counted = λ h. k.counted (c.loop-step.invariant.counted h);
      parts = k.parted c.loop-step.invariant.parts;
      long = c.find_at-count.auto.pages ∙ c.loop-step.invariant.long;
      many = c.find_at-count.ensures.length ∙ c.loop-step.invariant.many;
    }
