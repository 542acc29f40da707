use Rattle.std.proofs.Common.{◌≡◌, ◌∙◌, length, refl, subst, arith}
use Rattle.std.specs.Prelude.{slice_index_or, slice_set}
use Rattle.lend_steps.proofs.Turns.{Keeps, copied_follows, turn_keeps}
use Rattle.lend_steps.specs.Copies.{CameOfCopy, CopiedAt, copied_by, facts_in}
use Rattle.lend_steps.specs.Lists.{InTurn, Turn, begins, goes_on}
use Rattle.window_tables.proofs.Places.{set_length}
use Rattle.lend_steps.proofs.copies.copied_each.Goals as goal

pub loop-n-init : goal.loop-n-init
loop-n-init c = record { turns = begins; counted = λ h. h; parts = c.requires.parts; count = c.requires.answers }

pub loop-n-preserved : goal.loop-n-preserved
loop-n-preserved c =
    let its : Turn (CopiedAt c.args.table.now c.args.pins.now c.args.numbers.now c.args.outcomes.now c.loop-n.n) c.args.lead (slice_index_or c.args.numbers.now c.loop-n.n 0) c.copied_at-answer.result c.loop-n.pages c.copied_at-answer.new.pages c.loop-n.parts c.copied_at-answer.new.parts =
    subst (λ o. Turn (λ a x y p q. CameOfCopy (facts_in c.args.table.now c.args.pins.now c.args.numbers.now c.loop-n.n) a x y p q o) c.args.lead (slice_index_or c.args.numbers.now c.loop-n.n 0) c.copied_at-answer.result c.loop-n.pages c.copied_at-answer.new.pages c.loop-n.parts c.copied_at-answer.new.parts)
    c.copied_by.ensures
    (subst (λ f. Turn (λ a x y p q. CameOfCopy f a x y p q c.copied_by.result) c.args.lead (slice_index_or c.args.numbers.now c.loop-n.n 0) c.copied_at-answer.result c.loop-n.pages c.copied_at-answer.new.pages c.loop-n.parts c.copied_at-answer.new.parts)
    c.facts_of-facts.ensures c.copied_at-answer.ensures) in
    let k : Keeps c.args.lead c.loop-n.pages c.copied_at-answer.new.pages c.loop-n.parts c.copied_at-answer.new.parts =
    turn_keeps (CopiedAt c.args.table.now c.args.pins.now c.args.numbers.now c.args.outcomes.now c.loop-n.n) c.args.lead (slice_index_or c.args.numbers.now c.loop-n.n 0) c.copied_at-answer.result c.loop-n.pages c.copied_at-answer.new.pages c.loop-n.parts c.copied_at-answer.new.parts
    (λ x y p q d. copied_follows (facts_in c.args.table.now c.args.pins.now c.args.numbers.now c.loop-n.n) c.copied_at-answer.result x y p q (copied_by (slice_index_or c.args.outcomes.now c.loop-n.n 0)) d)
    its in
    record {
      turns =
          goes_on c.loop-n.n c.copied_at-answer.result c.loop-n.pages c.copied_at-answer.new.pages c.loop-n.parts c.copied_at-answer.new.parts c.loop-n.answers (slice_set c.loop-n.answers c.loop-n.n c.copied_at-answer.result)
          c.loop-n.invariant.turns (omega arith) its refl;
      counted = λ h. k.counted (c.loop-n.invariant.counted h);
      parts = k.parted c.loop-n.invariant.parts;
      count = set_length c.loop-n.answers c.loop-n.n c.copied_at-answer.result ∙ c.loop-n.invariant.count;
    }

pub returns-clause-pages : goal.returns-clause-pages
returns-clause-pages c =
    let e : c.loop-n.n ≡ length c.args.numbers.now = omega arith in
    subst (λ n. InTurn (CopiedAt c.args.table.now c.args.pins.now c.args.numbers.now c.args.outcomes.now) c.args.lead c.args.numbers.now c.args.pages.now c.args.parts.now c.args.answers.now n c.loop-n.pages c.loop-n.parts c.loop-n.answers) e c.loop-n.invariant.turns
