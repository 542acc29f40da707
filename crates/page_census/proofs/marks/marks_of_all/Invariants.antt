use Rattle.std.proofs.Common.{◌≡◌, length, take, map, vec_len}
use Rattle.page_census.specs.Contents.{AreSteady, contents}
use Rattle.page_census.specs.Marks.{mark_at}
use Rattle.page_census.proofs.marks.marks_of_all.Given as goal

abbrev pub invariant-loop-number : goal.invariant-loop-number
invariant-loop-number g l = record {
  len : vec_len l.marks ≡ length (contents g.S.PageSource.pages (take l.number l.guests));
  right : AreSteady g.S.PageSource.is_steady l.guests → l.marks.items ≡ map (mark_at g.H.HashFunction.hash_of) (contents g.S.PageSource.pages (take l.number l.guests));
}
