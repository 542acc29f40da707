use Rattle.std.proofs.Common.{ap, sym}
use Rattle.merge_core.specs.Shown.{state_of}
use Rattle.pageshare_c.proofs.Finds.{text_blank}
use Rattle.pageshare_c.specs.Gets.{value_or}
use Rattle.pageshare_c.proofs.find.copy_page.Goals as goal

-- an unmapped page reads as zeros
pub returns-in-None-clause-bytes : goal.returns-in-None-clause-bytes
returns-in-None-clause-bytes g c = sym (ap (value_or c.args.room.now) (text_blank (state_of c.args.core.now) c.args.guest c.args.ppn c.in-None.ensures.mapped))
