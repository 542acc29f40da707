use Rattle.std.proofs.Common.{◌&&◌, Bool, sym, ap, ◌∙◌}
use Rattle.live_memory.specs.Details.{says_offered}
use Rattle.live_memory.proofs.Walked.{detail_found, detail_passed, last_detail}
use Rattle.live_memory.proofs.details.is_offered.Goals as goal

pub returns-then-says_offered : goal.returns-then-says_offered
returns-then-says_offered c =
    let cut = c.in-Some.ensures.parts in
    detail_found c.loop-line.rest.now c.in-Some.line.now c.in-Some.behind.now cut.0 cut.1 cut.2 (sym c.is_detail.ensures ∙ c.if-not-is_detail.false) (sym c.says_offered.ensures ∙ c.if-says_offered.true) ∙ c.loop-line.invariant

pub loop-line-preserved : goal.loop-line-preserved
loop-line-preserved c =
    let cut = c.in-Some.ensures.parts in
    detail_passed c.loop-line.rest.now c.in-Some.line.now c.in-Some.behind.now cut.0 cut.1 cut.2 (sym c.is_detail.ensures ∙ c.if-not-is_detail.false) (sym c.says_offered.ensures ∙ c.if-says_offered.false) ∙ c.loop-line.invariant

pub returns-then-is_detail : goal.returns-then-is_detail
returns-then-is_detail c =
    let rest = c.loop-line.rest.now in
    c.says_offered-then-is_detail.ensures ∙ ap (λ (b : Bool). b && says_offered rest) (c.if-is_detail.ensures {u = tt}) ∙ last_detail rest c.in_default.ensures.parts ∙ c.loop-line.invariant
