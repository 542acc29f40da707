use Rattle.std.proofs.Common.{◌∙◌, ap}
use Rattle.window_events.specs.Windows.{last}
use Rattle.window_events.proofs.Whole.{shown_last}
use Rattle.window_events.proofs.mappings.Mappings.shown.Goals as goal

pub returns-clause-last : goal.returns-clause-last
returns-clause-last g c = c.shown.ensures ∙ shown_last c.self.inside.parts c.args.page c.self.invariant ∙ ap (λ w. last w c.args.page) c.self.view_is
