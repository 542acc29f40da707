use Rattle.std.proofs.Common.{◌≡◌, length}
use Rattle.page_census.specs.Contents.{AreSteady, contents}
use Rattle.page_census.specs.Fingerprints.{Sure, seen}
use Rattle.page_census.specs.Places.{Holds}
use Rattle.page_census.proofs.Chained.{Walks}
use Rattle.page_census.proofs.classes.class_of_next.Given as goal

abbrev pub invariant-loop-link : goal.invariant-loop-link
invariant-loop-link g l = record {
  walk : Walks (Sure l.by (AreSteady g.S.PageSource.is_steady l.guests)) (seen l.by (contents g.S.PageSource.pages l.guests) l.marks) l.marks l.known.classes.items (length l.known.heads.items) l.number l.link;
  own : Holds (AreSteady g.S.PageSource.is_steady l.guests) (contents g.S.PageSource.pages l.guests) l.subject l.own;
  number : l.subject.number ≡ l.number;
}

abbrev pub decreases-loop-link : goal.decreases-loop-link
decreases-loop-link g l = l.link
