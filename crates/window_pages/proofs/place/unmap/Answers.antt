use Rattle.std.proofs.Common.{subst}
use Rattle.page_lender.specs.Events.{HeardRightly}
use Rattle.window_pages.specs.Changed.{discarded}
use Rattle.window_pages.proofs.place.unmap.Goals as goal

pub returns-clause-right : goal.returns-clause-right
returns-clause-right c =
    subst (λ k. HeardRightly k.belief (discarded k)) c.known-known.ensures
    (subst (λ b. HeardRightly c.known-known.result.belief b) c.discarded.ensures.value c.discarded.ensures.right)
