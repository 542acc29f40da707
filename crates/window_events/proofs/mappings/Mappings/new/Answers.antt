use Rattle.window_events.proofs.Whole.{start_whole}
use Rattle.window_events.proofs.mappings.Mappings.new.Goals as goal

pub invariant_of-result : goal.invariant_of-result
invariant_of-result g c = rw c.in_ok-parts.ensures (start_whole c.args.contents.now c.args.frames.now)
