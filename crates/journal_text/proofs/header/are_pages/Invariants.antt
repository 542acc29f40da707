use Rattle.std.proofs.Common.{◌≡◌, ◌+◌, true, take, nat_lt}
use Rattle.std.specs.Prelude.{sum}
use Rattle.std.specs.List.{list_all}
use Rattle.page_model.specs.declared.limits.TheConstants.{MAX_PAGES}
use Rattle.journal_text.proofs.header.are_pages.Given as goal

abbrev pub invariant-loop-n : goal.invariant-loop-n
invariant-loop-n l = record {
  positive : list_all (nat_lt 0) (take l.n-index l.pages) ≡ true;
  total : sum (take l.n-index l.pages) + l.left ≡ MAX_PAGES;
}
