-- The numbers of what is to be done with a part of a window.
use Rattle.std.specs.Prelude.{ℕ}
use Rattle.page_looks.specs.declared.parts.part.PartOrder.{PartOrder}
use Rattle.page_looks.specs.declared.parts.part.PartOrder.TheVariants.{Stay, Split, MakeWhole}

abbrev pub part_number : PartOrder → ℕ
part_number Stay = 0
part_number Split = 1
part_number MakeWhole = 2
