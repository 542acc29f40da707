use Rattle.std.proofs.Common.{◌≡◌, ◌≤◌, length, vec_len, vec_capacity}
use Rattle.page_census.specs.Classes.{Classed}
use Rattle.page_census.specs.Contents.{AreSteady, contents}
use Rattle.page_census.specs.Fingerprints.{Sure, seen}
use Rattle.page_census.proofs.classes.classes_of.Given as goal

abbrev pub invariant-loop-number : goal.invariant-loop-number
invariant-loop-number g l = record {
  classed : Classed (Sure l.by (AreSteady g.S.PageSource.is_steady l.guests)) (seen l.by (contents g.S.PageSource.pages l.guests) l.marks) l.marks l.known.classes.items l.known.links.items l.known.heads.items;
  len : vec_len l.known.classes ≡ l.number;
  own : vec_len l.own ≡ 1;
  other : vec_len l.other ≡ 1;
  class_room : length l.marks ≤ vec_capacity l.known.classes;
  link_room : length l.marks ≤ vec_capacity l.known.links;
}
