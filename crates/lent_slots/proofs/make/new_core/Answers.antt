use Rattle.std.proofs.Common.{ap, ◌∙◌}
use Rattle.page_model.specs.Limits.{shapes}
use Rattle.page_model.specs.Parts.{MachineParts}
use Rattle.page_model.specs.Replay.{empty_state}
use Rattle.machine_frames.specs.FrameMap.{no_frames}
use Rattle.lent_slots.proofs.Empty.{fits_new}
use Rattle.lent_slots.proofs.make.new_core.Goals as goal

pub returns-in_ok-core-in-Ok-clause-fits : goal.returns-in_ok-core-in-Ok-clause-fits
returns-in_ok-core-in-Ok-clause-fits g c =
    fits_new c.in_ok-core-in-Ok.core c.total.result c.args.count c.args.salt
    (c.in_ok-core-in-Ok.ensures.empty ∙ ap (λ (s : MachineParts). empty_state s.frames (shapes s.salts s.pages)) c.in-Ok.ensures.ok)
    (c.in_ok-core-in-Ok.ensures.frames ∙ ap (λ (s : MachineParts). no_frames s.frames) c.in-Ok.ensures.ok)
    c.frames-in-Ok.ensures.pages
