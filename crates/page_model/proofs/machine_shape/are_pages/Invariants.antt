use Rattle.std.proofs.Common.{◌≡◌, ◌+◌, ◌≤◌, take, sum}
use Rattle.std.specs.Prelude.{All}
use Rattle.page_model.specs.declared.limits.TheConstants.{MAX_PAGES}
use Rattle.page_model.proofs.machine_shape.are_pages.Given as goal

abbrev pub invariant-loop-own : goal.invariant-loop-own
invariant-loop-own l = record {
  left : l.room + sum (take l.own-index l.pages) ≡ MAX_PAGES;
  some : All (λ n. 1 ≤ n) (take l.own-index l.pages);
}
