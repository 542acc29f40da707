use Rattle.std.proofs.Common.{◌≡◌, ap, ◌∙◌}
use Rattle.page_model.specs.Steps.{Step}
use Rattle.share_rings.specs.Closing.{is_close, is_closed}
use Rattle.merge_core.specs.Shown.{state_of}
use Rattle.merge_machine.proofs.Closes.{closes_alike}
use Rattle.merge_machine.proofs.serve.answer_one.Goals as goal

pub give-requires-clause-unanswered : goal.give-requires-clause-unanswered
give-requires-clause-unanswered g c =
    let r = c.args.request.now in
    let closes : is_closed c.apply_ahead.result ≡ is_close r = ap (λ (s : Step). is_closed s.verdict) c.apply_ahead.ensures.step ∙ closes_alike g.H.HashFunction.hash_of (state_of c.args.core.now) c.args.guest r in
    (c.requires.unanswered.0, λ d. closes ∙ c.requires.unanswered.1 d)
