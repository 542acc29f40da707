use Rattle.std.proofs.Common.{◌≡◌, ◌++◌, ◌≤◌, length, take, drop, vec_len, vec_capacity}
use Rattle.page_census.specs.Contents.{contents}
use Rattle.page_census.specs.Counted.{counted_guests}
use Rattle.page_census.proofs.numbers.numbers_of.Given as goal

abbrev pub invariant-loop-guest : goal.invariant-loop-guest
invariant-loop-guest g l = record {
  at : l.start ≡ length (contents g.S.PageSource.pages (take l.guest l.guests));
  right : l.numbers.items ++ counted_guests g.S.PageSource.pages l.copies (drop l.guest l.guests) (drop l.start l.marks) (drop l.start l.classes) ≡ counted_guests g.S.PageSource.pages l.copies l.guests l.marks l.classes;
  len : vec_len l.numbers ≡ l.guest;
  room : length l.guests ≤ vec_capacity l.numbers;
}
