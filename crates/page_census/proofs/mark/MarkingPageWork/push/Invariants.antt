use Rattle.std.proofs.Common.{◌≡◌, ◌++◌, take}
use Rattle.std.specs.List.{flat_map}
use Rattle.page_census.proofs.Marked.{given}
use Rattle.page_census.proofs.mark.MarkingPageWork.push.Given as goal

abbrev pub invariant-loop-page : goal.invariant-loop-page
invariant-loop-page g l = l.items.items ≡ l.initial.items.items ++ flat_map (given g.H.HashFunction.hash_of l.self.salt) (take l.page-index l.pages)
