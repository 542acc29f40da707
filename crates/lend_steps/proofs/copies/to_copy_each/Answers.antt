use Rattle.std.proofs.Common.{◌≡◌, ◌∙◌, length, refl, subst, arith}
use Rattle.std.specs.Prelude.{slice_index_or, slice_set}
use Rattle.lend_steps.proofs.Turns.{Keeps, to_copy_follows, turn_keeps}
use Rattle.lend_steps.specs.Copies.{CopiesAt, ToCopy, facts_in, is_ready}
use Rattle.lend_steps.specs.Lists.{InTurn, Turn, begins, goes_on}
use Rattle.window_tables.proofs.Places.{set_length}
use Rattle.lend_steps.proofs.copies.to_copy_each.Goals as goal

pub loop-n-init : goal.loop-n-init
loop-n-init c = record { turns = begins; counted = λ h. h; parts = c.requires.parts; count = c.requires.answers }

pub loop-n-preserved : goal.loop-n-preserved
loop-n-preserved c =
    let its : Turn (CopiesAt c.args.table.now c.args.pins.now c.args.lead c.args.wholes.now c.args.numbers.now c.args.there.now c.args.fingerprints.now c.loop-n.n) c.args.lead (slice_index_or c.args.numbers.now c.loop-n.n 0) c.to_copy_at-answer.result c.loop-n.pages c.to_copy_at-answer.new.pages c.loop-n.parts c.to_copy_at-answer.new.parts =
    subst (λ r. Turn (ToCopy (facts_in c.args.table.now c.args.pins.now c.args.numbers.now c.loop-n.n) r (slice_index_or c.args.fingerprints.now c.loop-n.n 0)) c.args.lead (slice_index_or c.args.numbers.now c.loop-n.n 0) c.to_copy_at-answer.result c.loop-n.pages c.to_copy_at-answer.new.pages c.loop-n.parts c.to_copy_at-answer.new.parts)
    c.is_ready-ready.ensures
    (subst (λ f. Turn (ToCopy f c.is_ready-ready.result (slice_index_or c.args.fingerprints.now c.loop-n.n 0)) c.args.lead (slice_index_or c.args.numbers.now c.loop-n.n 0) c.to_copy_at-answer.result c.loop-n.pages c.to_copy_at-answer.new.pages c.loop-n.parts c.to_copy_at-answer.new.parts)
    c.facts_of-facts.ensures c.to_copy_at-answer.ensures) in
    let k : Keeps c.args.lead c.loop-n.pages c.to_copy_at-answer.new.pages c.loop-n.parts c.to_copy_at-answer.new.parts =
    turn_keeps (CopiesAt c.args.table.now c.args.pins.now c.args.lead c.args.wholes.now c.args.numbers.now c.args.there.now c.args.fingerprints.now c.loop-n.n) c.args.lead (slice_index_or c.args.numbers.now c.loop-n.n 0) c.to_copy_at-answer.result c.loop-n.pages c.to_copy_at-answer.new.pages c.loop-n.parts c.to_copy_at-answer.new.parts
    (λ x y p q d. to_copy_follows (facts_in c.args.table.now c.args.pins.now c.args.numbers.now c.loop-n.n) (is_ready c.args.lead c.args.wholes.now (slice_index_or c.args.numbers.now c.loop-n.n 0) (slice_index_or c.args.there.now c.loop-n.n 0)) (slice_index_or c.args.fingerprints.now c.loop-n.n 0) c.to_copy_at-answer.result x y p q d)
    its in
    record {
      turns =
          goes_on c.loop-n.n c.to_copy_at-answer.result c.loop-n.pages c.to_copy_at-answer.new.pages c.loop-n.parts c.to_copy_at-answer.new.parts c.loop-n.answers (slice_set c.loop-n.answers c.loop-n.n c.to_copy_at-answer.result)
          c.loop-n.invariant.turns (omega arith) its refl;
      counted = λ h. k.counted (c.loop-n.invariant.counted h);
      parts = k.parted c.loop-n.invariant.parts;
      count = set_length c.loop-n.answers c.loop-n.n c.to_copy_at-answer.result ∙ c.loop-n.invariant.count;
    }

pub returns-clause-pages : goal.returns-clause-pages
returns-clause-pages c =
    let e : c.loop-n.n ≡ length c.args.numbers.now = omega arith in
    subst (λ n. InTurn (CopiesAt c.args.table.now c.args.pins.now c.args.lead c.args.wholes.now c.args.numbers.now c.args.there.now c.args.fingerprints.now) c.args.lead c.args.numbers.now c.args.pages.now c.args.parts.now c.args.answers.now n c.loop-n.pages c.loop-n.parts c.loop-n.answers) e c.loop-n.invariant.turns
