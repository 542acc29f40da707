-- What applying one request of a guest does to a core.
use Rattle.std.specs.Prelude.{◌≡◌, ◌+◌, ℕ, List, length}
use Rattle.page_model.specs.Steps.{step}
use Rattle.page_model.specs.declared.request.Request.{Request}
use Rattle.page_model.specs.declared.verdict.Verdict.{Verdict}
use Rattle.merge_core.specs.Shown.{Shown, state_of}
use Rattle.merge_core.specs.Stays.{FramesStay}

-- The model takes a step in which the request gets the verdict. Every page keeps its frame, except that the named page's
-- changes if the verdict says so; one more request was served; and the number of guests is as before.
pub record Applies (hash : ℕ → List ℕ → ℕ) (guest : ℕ) (request : Request) (verdict : Verdict) (old new : Shown) : Type 0 where
  pub step : record { state = state_of new; verdict = verdict } ≡ step hash (state_of old) guest request
  pub stay : FramesStay guest request verdict old new
  pub entries : new.entries ≡ old.entries + 1
  pub guests : length (state_of new).guests ≡ length (state_of old).guests
