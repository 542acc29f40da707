use Rattle.window_events.proofs.Whole.{step_whole}
use Rattle.window_events.proofs.mappings.Mappings.apply.Goals as goal

pub invariant_of-self : goal.invariant_of-self
invariant_of-self g c = rw c.apply.ensures.mappings (step_whole c.self.inside.parts c.args.event.now c.self.invariant)
