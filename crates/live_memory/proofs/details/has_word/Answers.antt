use Rattle.std.proofs.Common.{sym, ◌∙◌}
use Rattle.live_memory.proofs.Walked.{last_word, word_found, word_passed}
use Rattle.live_memory.proofs.details.has_word.Goals as goal

pub returns-then-eq : goal.returns-then-eq
returns-then-eq c =
    let cut = c.in-Some.ensures.parts in
    word_found c.args.word.now c.loop-first.rest.now c.in-Some.first.now c.in-Some.behind.now cut.0 cut.1 cut.2 (sym c.eq.ensures ∙ c.if-eq.true) ∙ c.loop-first.invariant

pub loop-first-preserved : goal.loop-first-preserved
loop-first-preserved c =
    let cut = c.in-Some.ensures.parts in
    word_passed c.args.word.now c.loop-first.rest.now c.in-Some.first.now c.in-Some.behind.now cut.0 cut.1 cut.2 (sym c.eq.ensures ∙ c.if-eq.false) ∙ c.loop-first.invariant

pub returns : goal.returns
returns c = c.eq-2.ensures ∙ last_word c.args.word.now c.loop-first.rest.now c.in_default.ensures.parts ∙ c.loop-first.invariant
