use Rattle.std.proofs.Common.{◌≡◌, ◌<◌, drop, length}
use Rattle.page_census.specs.Contents.{contents, content_at}
use Rattle.page_census.proofs.place.place_of.Given as goal

abbrev pub invariant-loop-guest : goal.invariant-loop-guest
invariant-loop-guest g l = record {
  within : l.left < length (contents g.S.PageSource.pages (drop l.guest l.guests));
  same : content_at (contents g.S.PageSource.pages l.guests) l.number ≡ content_at (contents g.S.PageSource.pages (drop l.guest l.guests)) l.left;
}
