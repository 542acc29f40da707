use Rattle.std.proofs.Common.{◌≡◌, ◌*◌, ◌++◌, length}
use Rattle.std.specs.Vec.Iter.{into_iter_items}
use Rattle.page_census.specs.Contents.{AreSteady, contents}
use Rattle.page_census.specs.Fingerprints.{AreConfirmed}
use Rattle.page_census.proofs.confirm.are_confirmed.Given as goal

abbrev pub invariant-loop-answer : goal.invariant-loop-answer
invariant-loop-answer g l = record {
  right : AreConfirmed (AreSteady g.S.PageSource.is_steady l.guests) (contents g.S.PageSource.pages l.guests) l.classes 0 (l.size * length l.yielded);
  whole : l.yielded ++ into_iter_items l.answer-iterator ≡ into_iter_items l.initial.answer-iterator;
}
