use Rattle.std.proofs.Common.{◌-◌, ◌^◌, min, ap, ◌∙◌}
use Rattle.memory_images.specs.Pages.{count_of}
use Rattle.live_memory.proofs.Imaged.{some_counted}
use Rattle.live_memory.proofs.process.shared_of_maps.Goals as goal

pub returns-in-Ok-segments_in : goal.returns-in-Ok-segments_in
returns-in-Ok-segments_in g c = λ steady.
    let ranged = c.in-Ok.ensures.ranges in
    let pagemap = g.P.ReadAt.bytes c.args.pagemap.now in
    some_counted c.args.choice pagemap c.args.maps.now ranged.0 c.deref.result.now c.in-Ok-segments_in.segments.items c.count_pages.result ranged.1
    (c.deref.ensures.value ∙ ranged.2) (c.in-Ok-segments_in.ensures.pages steady)
    (c.count_pages.ensures ∙ ap (λ segments. min (count_of segments) (2 ^ 64 - 1)) c.deref-in-Ok-segments_in.ensures.value)
