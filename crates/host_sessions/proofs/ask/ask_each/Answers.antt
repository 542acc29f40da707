use Rattle.std.proofs.Common.{refl, arith}
use Rattle.fingerprint_domain.specs.Known.{fingerprints_in}
use Rattle.host_sessions.specs.Turns.{answers_to, asked}
use Rattle.host_sessions.proofs.Loops.{answered_more, asked_more, all_answered, all_asked}
use Rattle.host_sessions.proofs.ask.ask_each.Goals as goal

pub loop-question-preserved : goal.loop-question-preserved
loop-question-preserved g c =
    let l = c.loop-question in
    let e = c.ask_one.ensures in
    let qs = c.args.questions.now in
    record {
      answers = rw c.push.ensures.items (answered_more (fingerprints_in c.args.domain.now.salt c.args.domain.now.domain.machines) c.args.client qs l.question-index _ _ l.answers.items c.ask_one.result l.recent c.ask_one.new.recent (answers_to (fingerprints_in c.args.domain.now.salt c.args.domain.now.domain.machines) c.args.client qs c.args.recent.now) c.loop-question-test.true refl e.answer e.noted l.invariant.answers);
      asked = asked_more (fingerprints_in c.args.domain.now.salt c.args.domain.now.domain.machines) c.args.client qs l.question-index _ _ l.recent c.ask_one.new.recent (asked (fingerprints_in c.args.domain.now.salt c.args.domain.now.domain.machines) c.args.client qs c.args.recent.now) c.loop-question-test.true refl e.noted l.invariant.asked;
      len = omega (arith, c.push.ensures.len, l.invariant.len);
    }

pub returns-clause-answers : goal.returns-clause-answers
returns-clause-answers g c =
    let l = c.loop-question in
    all_answered (fingerprints_in c.args.domain.now.salt c.args.domain.now.domain.machines) c.args.client c.args.questions.now l.question-index l.answers.items l.recent (answers_to (fingerprints_in c.args.domain.now.salt c.args.domain.now.domain.machines) c.args.client c.args.questions.now c.args.recent.now) c.loop-question-test.false l.invariant.answers

pub returns-clause-asked : goal.returns-clause-asked
returns-clause-asked g c =
    let l = c.loop-question in
    all_asked (fingerprints_in c.args.domain.now.salt c.args.domain.now.domain.machines) c.args.client c.args.questions.now l.question-index l.recent (asked (fingerprints_in c.args.domain.now.salt c.args.domain.now.domain.machines) c.args.client c.args.questions.now c.args.recent.now) c.loop-question-test.false l.invariant.asked
