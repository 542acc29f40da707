use Rattle.std.proofs.Common.{◌≡◌, ◌∙◌, length, refl, subst, arith}
use Rattle.std.specs.Prelude.{slice_index_or, slice_set}
use Rattle.lend_steps.proofs.Turns.{Keeps, loaned_follows, turn_keeps}
use Rattle.lend_steps.specs.Lists.{InTurn, Turn, begins, goes_on}
use Rattle.lend_steps.specs.Loans.{CameOfLoan, LoanedAt, reply_of}
use Rattle.window_tables.proofs.Places.{set_length}
use Rattle.lend_steps.proofs.loans.loaned_each.Goals as goal

pub loop-n-init : goal.loop-n-init
loop-n-init c = record { turns = begins; counted = λ h. h; parts = c.requires.parts; count = c.requires.answers }

pub loop-n-preserved : goal.loop-n-preserved
loop-n-preserved c =
    let its : Turn (LoanedAt c.args.is_heard c.args.slots.now c.args.given.now c.args.frames c.loop-n.n) c.args.lead (slice_index_or c.args.numbers.now c.loop-n.n 0) c.loaned_at-answer.result c.loop-n.pages c.loaned_at-answer.new.pages c.loop-n.parts c.loaned_at-answer.new.parts =
    subst (λ r. Turn (λ a x y p q. CameOfLoan c.args.frames a x y p q r) c.args.lead (slice_index_or c.args.numbers.now c.loop-n.n 0) c.loaned_at-answer.result c.loop-n.pages c.loaned_at-answer.new.pages c.loop-n.parts c.loaned_at-answer.new.parts)
    c.reply_of-reply.ensures c.loaned_at-answer.ensures in
    let k : Keeps c.args.lead c.loop-n.pages c.loaned_at-answer.new.pages c.loop-n.parts c.loaned_at-answer.new.parts =
    turn_keeps (LoanedAt c.args.is_heard c.args.slots.now c.args.given.now c.args.frames c.loop-n.n) c.args.lead (slice_index_or c.args.numbers.now c.loop-n.n 0) c.loaned_at-answer.result c.loop-n.pages c.loaned_at-answer.new.pages c.loop-n.parts c.loaned_at-answer.new.parts
    (λ x y p q d. loaned_follows c.args.frames c.loaned_at-answer.result x y p q (reply_of c.args.is_heard (slice_index_or c.args.slots.now c.loop-n.n 0) (slice_index_or c.args.given.now c.loop-n.n 0)) d)
    its in
    record {
      turns =
          goes_on c.loop-n.n c.loaned_at-answer.result c.loop-n.pages c.loaned_at-answer.new.pages c.loop-n.parts c.loaned_at-answer.new.parts c.loop-n.answers (slice_set c.loop-n.answers c.loop-n.n c.loaned_at-answer.result)
          c.loop-n.invariant.turns (omega arith) its refl;
      counted = λ h. k.counted (c.loop-n.invariant.counted h);
      parts = k.parted c.loop-n.invariant.parts;
      count = set_length c.loop-n.answers c.loop-n.n c.loaned_at-answer.result ∙ c.loop-n.invariant.count;
    }

pub returns-clause-pages : goal.returns-clause-pages
returns-clause-pages c =
    let e : c.loop-n.n ≡ length c.args.numbers.now = omega arith in
    subst (λ n. InTurn (LoanedAt c.args.is_heard c.args.slots.now c.args.given.now c.args.frames) c.args.lead c.args.numbers.now c.args.pages.now c.args.parts.now c.args.answers.now n c.loop-n.pages c.loop-n.parts c.loop-n.answers) e c.loop-n.invariant.turns
