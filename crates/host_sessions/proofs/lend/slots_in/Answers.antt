use Rattle.std.proofs.Common.{refl, arith}
use Rattle.host_sessions.specs.Turns.{slots_in}
use Rattle.host_sessions.proofs.Loops.{taken_more, all_taken}
use Rattle.host_sessions.proofs.lend.slots_in.Goals as goal

pub loop-lent-preserved : goal.loop-lent-preserved
loop-lent-preserved c =
    let l = c.loop-lent in
    let one = c.push_lent in
    record {
      slots = taken_more c.args.loans.now l.lent-index _ _ l.slots.items one.new.slots.items (slots_in c.args.loans.now) c.loop-lent-test.true refl one.ensures.items l.invariant.slots;
      len = omega (arith, one.ensures.len, l.invariant.len);
    }

pub returns : goal.returns
returns c =
    let l = c.loop-lent in
    all_taken c.args.loans.now l.lent-index l.slots.items (slots_in c.args.loans.now) c.loop-lent-test.false l.invariant.slots
