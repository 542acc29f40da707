use Rattle.std.proofs.Common.{◌≡◌, ◌∙◌, not, length, refl, subst, ap, arith}
use Rattle.std.specs.Prelude.{slice_index_or, slice_set}
use Rattle.lend_steps.proofs.Turns.{Keeps, to_hold_follows, turn_keeps}
use Rattle.lend_steps.specs.Copies.{facts_in}
use Rattle.lend_steps.specs.Holds.{HoldsAt, ToHold}
use Rattle.lend_steps.specs.Lists.{InTurn, Turn, begins, goes_on}
use Rattle.window_tables.proofs.Places.{set_length}
use Rattle.window_tables.specs.Mappings.{is_whole}
use Rattle.lend_steps.proofs.holds.to_hold_each.Goals as goal

pub loop-n-init : goal.loop-n-init
loop-n-init c = record { turns = begins; counted = λ h. h; parts = c.requires.parts; count = c.requires.answers }

pub loop-n-preserved : goal.loop-n-preserved
loop-n-preserved c =
    let its : Turn (HoldsAt c.args.table.now c.args.pins.now c.args.lead c.args.wholes.now c.args.numbers.now c.loop-n.n) c.args.lead (slice_index_or c.args.numbers.now c.loop-n.n 0) c.to_hold_at-answer.result c.loop-n.pages c.to_hold_at-answer.new.pages c.loop-n.parts c.to_hold_at-answer.new.parts =
    subst (λ s. Turn (ToHold (facts_in c.args.table.now c.args.pins.now c.args.numbers.now c.loop-n.n) s) c.args.lead (slice_index_or c.args.numbers.now c.loop-n.n 0) c.to_hold_at-answer.result c.loop-n.pages c.to_hold_at-answer.new.pages c.loop-n.parts c.to_hold_at-answer.new.parts)
    (ap not c.is_whole-split.ensures)
    (subst (λ f. Turn (ToHold f (not c.is_whole-split.result)) c.args.lead (slice_index_or c.args.numbers.now c.loop-n.n 0) c.to_hold_at-answer.result c.loop-n.pages c.to_hold_at-answer.new.pages c.loop-n.parts c.to_hold_at-answer.new.parts)
    c.facts_of-facts.ensures c.to_hold_at-answer.ensures) in
    let k : Keeps c.args.lead c.loop-n.pages c.to_hold_at-answer.new.pages c.loop-n.parts c.to_hold_at-answer.new.parts =
    turn_keeps (HoldsAt c.args.table.now c.args.pins.now c.args.lead c.args.wholes.now c.args.numbers.now c.loop-n.n) c.args.lead (slice_index_or c.args.numbers.now c.loop-n.n 0) c.to_hold_at-answer.result c.loop-n.pages c.to_hold_at-answer.new.pages c.loop-n.parts c.to_hold_at-answer.new.parts
    (λ x y p q d. to_hold_follows (facts_in c.args.table.now c.args.pins.now c.args.numbers.now c.loop-n.n) (not (is_whole c.args.lead c.args.wholes.now (slice_index_or c.args.numbers.now c.loop-n.n 0))) c.to_hold_at-answer.result x y p q d)
    its in
    record {
      turns =
          goes_on c.loop-n.n c.to_hold_at-answer.result c.loop-n.pages c.to_hold_at-answer.new.pages c.loop-n.parts c.to_hold_at-answer.new.parts c.loop-n.answers (slice_set c.loop-n.answers c.loop-n.n c.to_hold_at-answer.result)
          c.loop-n.invariant.turns (omega arith) its refl;
      counted = λ h. k.counted (c.loop-n.invariant.counted h);
      parts = k.parted c.loop-n.invariant.parts;
      count = set_length c.loop-n.answers c.loop-n.n c.to_hold_at-answer.result ∙ c.loop-n.invariant.count;
    }

pub returns-clause-pages : goal.returns-clause-pages
returns-clause-pages c =
    let e : c.loop-n.n ≡ length c.args.numbers.now = omega arith in
    subst (λ n. InTurn (HoldsAt c.args.table.now c.args.pins.now c.args.lead c.args.wholes.now c.args.numbers.now) c.args.lead c.args.numbers.now c.args.pages.now c.args.parts.now c.args.answers.now n c.loop-n.pages c.loop-n.parts c.loop-n.answers) e c.loop-n.invariant.turns
