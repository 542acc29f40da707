use Rattle.std.proofs.Common.{sym, ◌∙◌}
use Rattle.memory_images.proofs.Walked.{length-pages_of}
use Rattle.memory_images.proofs.source.ImagePageSource.count.Goals as goal

pub returns : goal.returns
returns g c =
    let image = c.args.self.now in
    image.counted ∙ sym (length-pages_of (g.R.ReadAt.bytes image.reader) image.segments.items image.within)
