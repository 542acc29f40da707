use Rattle.std.proofs.lemmas.List.Sorted.{IsNonDecreasingBy-from_sort}
use Rattle.guest_digests.proofs.Tallied.{digested}
use Rattle.guest_digests.proofs.digests.digest_pages.Goals as goal

pub count_digests-requires : goal.count_digests-requires
count_digests-requires g c = rw c.deref.ensures.value (IsNonDecreasingBy-from_sort (λ x. x) _ c.sort_unstable.ensures.sorted)

pub returns-clause-lines : goal.returns-clause-lines
returns-clause-lines g c =
    digested (g.S.PageSource.is_steady c.args.source.now) (g.S.PageSource.pages c.args.source.now) c.args.sampling _ _ c.in_ok-lines.lines.items
    (rw c.new-digests.ensures.items at c.in_ok-push_all.ensures.made) c.sort_unstable.ensures.permutation (rw c.deref.ensures.value at c.in_ok-lines.ensures)
