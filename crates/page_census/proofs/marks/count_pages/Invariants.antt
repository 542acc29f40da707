use Rattle.std.proofs.Common.{◌≡◌, length, take}
use Rattle.page_census.specs.Contents.{contents}
use Rattle.page_census.proofs.marks.count_pages.Given as goal

abbrev pub invariant-loop-guest : goal.invariant-loop-guest
invariant-loop-guest g l = l.total ≡ length (contents g.S.PageSource.pages (take l.guest l.guests))
