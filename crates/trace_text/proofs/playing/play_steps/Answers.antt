use Rattle.std.proofs.Common.{sym, ◌∙◌}
use Rattle.trace_text.proofs.Played.{ends_wrong, ends_right}
use Rattle.trace_text.proofs.playing.play_steps.Goals as goal

pub returns-in-Some : goal.returns-in-Some
returns-in-Some g c = ends_wrong c.args.mappings.now c.args.steps.now c.in-Some.outcome (sym c.in-Some.is ∙ c.first_wrong.ensures)

pub returns-in-None : goal.returns-in-None
returns-in-None g c =
    ends_right c.args.mappings.now c.args.steps.now c.count_events-events.result c.saturating_sub.result (sym c.in-None.is ∙ c.first_wrong.ensures) c.count_events-events.ensures c.saturating_sub.ensures
