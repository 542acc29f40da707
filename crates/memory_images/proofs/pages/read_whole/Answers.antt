use Rattle.std.proofs.Common.{◌∙◌, length, arith, rules}
use Rattle.memory_images.proofs.Cut.{whole_read}
use Rattle.memory_images.proofs.pages.read_whole.Goals as goal

pub returns : goal.returns
returns g c = λ steady.
    c.in_ok-read_pages_at.ensures.read steady
    ∙ whole_read (g.R.ReadAt.bytes c.args.reader.now) c.args.segment c.args.first (length c.args.into.now) _ c.requires.within (c.requires.whole (search rules)) (omega (arith, c.from.ensures))
