use Rattle.std.proofs.Common.{◌≡◌, ◌∙◌, ◌+◌, length, refl, ap, subst, arith}
use Rattle.std.specs.Prelude.{if◌then◌else◌, nat_eq, slice_index_or, slice_set}
use Rattle.lend_steps.proofs.Turns.{Keeps, answered_follows, turn_keeps}
use Rattle.lend_steps.specs.Asks.{AnsweredAt, takes_if_found}
use Rattle.lend_steps.specs.Lists.{InTurnWith, Turn, begins_with, goes_on_with}
use Rattle.window_tables.proofs.Places.{set_length}
use Rattle.lend_steps.proofs.asks.answered_each.Goals as goal

pub loop-n-init : goal.loop-n-init
loop-n-init c = record { turns = begins_with; counted = λ h. h; parts = c.requires.parts; count = c.requires.answers }

pub loop-n-preserved : goal.loop-n-preserved
loop-n-preserved c =
    let its : Turn (AnsweredAt c.args.most c.args.lead c.args.wholes.now c.args.numbers.now c.args.fingerprints.now c.args.seen.now c.loop-n.n c.loop-n.has c.loop-n.pages) c.args.lead (slice_index_or c.args.numbers.now c.loop-n.n 0) c.answered_at-answer.result c.loop-n.pages c.answered_at-answer.new.pages c.loop-n.parts c.answered_at-answer.new.parts = c.answered_at-answer.ensures.answer in
    let k : Keeps c.args.lead c.loop-n.pages c.answered_at-answer.new.pages c.loop-n.parts c.answered_at-answer.new.parts =
    turn_keeps (AnsweredAt c.args.most c.args.lead c.args.wholes.now c.args.numbers.now c.args.fingerprints.now c.args.seen.now c.loop-n.n c.loop-n.has c.loop-n.pages) c.args.lead (slice_index_or c.args.numbers.now c.loop-n.n 0) c.answered_at-answer.result c.loop-n.pages c.answered_at-answer.new.pages c.loop-n.parts c.answered_at-answer.new.parts (λ x y p q d. answered_follows _ _ _ _ c.answered_at-answer.result x y p q d) its in
    record {
      turns =
          goes_on_with c.loop-n.n c.answered_at-answer.result c.loop-n.has c.taken_then-has.result c.loop-n.pages c.answered_at-answer.new.pages c.loop-n.parts c.answered_at-answer.new.parts c.loop-n.answers (slice_set c.loop-n.answers c.loop-n.n c.answered_at-answer.result)
          c.loop-n.invariant.turns (omega arith) its refl
          (c.taken_then-has.ensures ∙ ap (λ m. c.loop-n.has + (if nat_eq c.answered_at-answer.result 1 then m else 0)) c.mappings_more-more.ensures);
      counted = λ h. k.counted (c.loop-n.invariant.counted h);
      parts = k.parted c.loop-n.invariant.parts;
      count = set_length c.loop-n.answers c.loop-n.n c.answered_at-answer.result ∙ c.loop-n.invariant.count;
    }

pub returns-clause-pages : goal.returns-clause-pages
returns-clause-pages c =
    let e : c.loop-n.n ≡ length c.args.numbers.now = omega arith in
    record {
      has = c.loop-n.has;
      turns = subst (λ n. InTurnWith (AnsweredAt c.args.most c.args.lead c.args.wholes.now c.args.numbers.now c.args.fingerprints.now c.args.seen.now) (takes_if_found c.args.lead c.args.wholes.now c.args.numbers.now) c.args.lead c.args.numbers.now c.args.pages.now c.args.parts.now c.args.answers.now c.args.taken n c.loop-n.has c.loop-n.pages c.loop-n.parts c.loop-n.answers) e c.loop-n.invariant.turns;
    }
