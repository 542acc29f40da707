-- What both ends of a pair show, side by side.
use Rattle.std.proofs.Common.{◌≡◌, ◌∙◌, ◌++◌, true, false, List}
use Rattle.page_model.specs.declared.request.Request.{Request}
use Rattle.page_model.specs.declared.verdict.Verdict.{Verdict}
use Rattle.share_rings.specs.Closing.{is_close, is_closed, has_close, has_closed, front, last_closed, matched}
use Rattle.share_rings.proofs.Fronts.{beside_front, beside_has, all_there, any_is_last_within}

module _ (taken : List Request) (given got known : List Verdict) (fifo : got ++ known ≡ given) (answered : matched given taken ≡ true) (once : has_close (front taken) ≡ false) where
  -- the last verdict got says whether a `Closed` was got
  pub drained_says : has_closed got ≡ last_closed got
  drained_says = any_is_last_within is_closed got known given fifo (beside_front is_closed is_close given taken answered once)

  pub all_met : (sent left : List Request) → taken ++ left ≡ sent → has_close (front sent) ≡ false → has_closed given ≡ true → last_closed got ≡ true → (has_closed got ≡ true) × (taken ≡ sent) × (got ≡ given)
  all_met sent left all shut ended drained = let t : has_closed got ≡ true = drained_says ∙ drained in (
    t,
    all_there is_close taken left sent all shut (beside_has is_closed is_close given taken answered ended),
    all_there is_closed got known given fifo (beside_front is_closed is_close given taken answered once) t,
  )
