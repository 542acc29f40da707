-- What proofs see of an image: the file that it reads, and the segments of it that hold pages.
use Rattle.std.specs.Prelude.{List}
use Rattle.memory_images.specs.declared.image.Image.{Image}
use Rattle.memory_images.specs.declared.read_at.ReadAt.{Ghosts}
use Rattle.memory_images.specs.declared.segment.Segment.{Segment}

module _ {R A F : Type 0} {ghosts : Ghosts R F} where
  abbrev pub reader_of : Image R A F ghosts → R
  reader_of image = image.reader

  abbrev pub segments_of : Image R A F ghosts → List Segment
  segments_of image = image.segments.items
