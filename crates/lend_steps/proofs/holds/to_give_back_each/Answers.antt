use Rattle.std.proofs.Common.{◌≡◌, ◌∙◌, length, refl, subst, arith}
use Rattle.std.specs.Prelude.{slice_index_or, slice_set}
use Rattle.lend_steps.proofs.Turns.{Keeps, to_give_back_follows, turn_keeps}
use Rattle.lend_steps.specs.Asks.{takes_none}
use Rattle.lend_steps.specs.Holds.{GivesBackAt}
use Rattle.lend_steps.specs.Lists.{InTurnWith, Turn, begins_with, goes_on_with}
use Rattle.window_tables.proofs.Places.{set_length}
use Rattle.lend_steps.proofs.holds.to_give_back_each.Goals as goal

pub loop-n-init : goal.loop-n-init
loop-n-init c = record { turns = begins_with; counted = λ h. h; parts = c.requires.parts; count = c.requires.answers }

pub loop-n-preserved : goal.loop-n-preserved
loop-n-preserved c =
    let its : Turn (GivesBackAt c.args.table.now c.args.pins.now c.args.most c.args.lead c.args.wholes.now c.args.numbers.now c.loop-n.n c.args.taken c.loop-n.pages) c.args.lead (slice_index_or c.args.numbers.now c.loop-n.n 0) c.to_give_back_at-answer.result c.loop-n.pages c.to_give_back_at-answer.new.pages c.loop-n.parts c.to_give_back_at-answer.new.parts = c.to_give_back_at-answer.ensures in
    let k : Keeps c.args.lead c.loop-n.pages c.to_give_back_at-answer.new.pages c.loop-n.parts c.to_give_back_at-answer.new.parts =
    turn_keeps (GivesBackAt c.args.table.now c.args.pins.now c.args.most c.args.lead c.args.wholes.now c.args.numbers.now c.loop-n.n c.args.taken c.loop-n.pages) c.args.lead (slice_index_or c.args.numbers.now c.loop-n.n 0) c.to_give_back_at-answer.result c.loop-n.pages c.to_give_back_at-answer.new.pages c.loop-n.parts c.to_give_back_at-answer.new.parts (λ x y p q d. to_give_back_follows _ _ _ c.to_give_back_at-answer.result x y p q d) its in
    record {
      turns =
          goes_on_with c.loop-n.n c.to_give_back_at-answer.result c.args.taken c.args.taken c.loop-n.pages c.to_give_back_at-answer.new.pages c.loop-n.parts c.to_give_back_at-answer.new.parts c.loop-n.answers (slice_set c.loop-n.answers c.loop-n.n c.to_give_back_at-answer.result)
          c.loop-n.invariant.turns (omega arith) its refl (omega arith);
      counted = λ h. k.counted (c.loop-n.invariant.counted h);
      parts = k.parted c.loop-n.invariant.parts;
      count = set_length c.loop-n.answers c.loop-n.n c.to_give_back_at-answer.result ∙ c.loop-n.invariant.count;
    }

pub returns-clause-pages : goal.returns-clause-pages
returns-clause-pages c =
    let e : c.loop-n.n ≡ length c.args.numbers.now = omega arith in
    record {
      has = c.args.taken;
      turns = subst (λ n. InTurnWith (GivesBackAt c.args.table.now c.args.pins.now c.args.most c.args.lead c.args.wholes.now c.args.numbers.now) takes_none c.args.lead c.args.numbers.now c.args.pages.now c.args.parts.now c.args.answers.now c.args.taken n c.args.taken c.loop-n.pages c.loop-n.parts c.loop-n.answers) e c.loop-n.invariant.turns;
    }
