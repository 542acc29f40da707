use Rattle.std.proofs.Common.{◌≡◌, ◌<◌, ◌≤◌, ℕ, get_or, vec_len}
use Rattle.page_census.specs.Contents.{AreSteady, contents, content_at}
use Rattle.page_census.proofs.confirm.is_part_confirmed.Given as goal

abbrev pub invariant-loop-number : goal.invariant-loop-number
invariant-loop-number g l = record {
  own : vec_len l.own ≡ 1;
  other : vec_len l.other ≡ 1;
  right : AreSteady g.S.PageSource.is_steady l.guests → (n : ℕ) → l.from ≤ n → n < l.number
      → content_at (contents g.S.PageSource.pages l.guests) n ≡ content_at (contents g.S.PageSource.pages l.guests) (get_or l.classes n 0);
}
