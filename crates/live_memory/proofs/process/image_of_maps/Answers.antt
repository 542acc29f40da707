use Rattle.std.proofs.Common.{ap, ◌∙◌}
use Rattle.live_memory.specs.PageMaps.{numbers_in}
use Rattle.live_memory.specs.declared.pagemap.PageState.TheVariants.{Populated}
use Rattle.live_memory.proofs.Imaged.{form_fails, many_imaged}
use Rattle.live_memory.proofs.process.image_of_maps.Goals as goal

pub returns-clause-image : goal.returns-clause-image
returns-clause-image g c = λ steady.
    let ranged = c.in-Ok.ensures.ranges in
    let pagemap = g.P.ReadAt.bytes c.args.pagemap.now in
    many_imaged c.args.choice pagemap c.args.maps.now ranged.0 c.in-Ok-segments_in.segments.items c.in-Err-Form._fault ranged.1
    (c.in-Ok-segments_in.ensures.pages steady ∙ ap (numbers_in Populated pagemap) (c.deref.ensures.value ∙ ranged.2)) (form_fails c.in-Err-Form.field-0 c.in-Err-Form._fault _ c.in-Err-Form.field-0-is c.in-Err-Form.ensures.read)
