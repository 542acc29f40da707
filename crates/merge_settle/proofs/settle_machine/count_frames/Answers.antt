use Rattle.std.proofs.Common.{sym, ◌∙◌}
use Rattle.merge_settle.proofs.Frames.{distinct_named}
use Rattle.merge_settle.proofs.settle_machine.count_frames.Goals as goal

pub returns : goal.returns
returns g c = sym c.frames-frames.ensures.pages.count ∙ sym (distinct_named c.args.core.now c.frames-frames.ensures.pages)
