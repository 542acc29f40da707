-- Each entry of a journal counts once.
use Rattle.std.proofs.Common.{◌≡◌, ℕ, ◌+◌, List, [], ◌∷◌, length, take, refl, arith, length-take}
use Rattle.page_model.specs.Pages.{State}
use Rattle.page_model.specs.Steps.{step}
use Rattle.page_model.specs.Replay.{empty_state, state_after}
use Rattle.page_model.specs.Growth.{EntriesNeverFall}
use Rattle.page_model.specs.declared.request.Entry.{Entry}
use Rattle.page_model.specs.declared.request.Request.{Request}

step_counted : (hash : ℕ → List ℕ → ℕ) (s : State) (a : ℕ) (r : Request) → (step hash s a r).state.entries ≡ s.entries + 1
unfolding step
step_counted hash s a r = refl

-- after a journal there are as many more entries as it has
pub entries_counted : (hash : ℕ → List ℕ → ℕ) (s : State) (es : List Entry) → (state_after hash s es).entries ≡ s.entries + length es
unfolding state_after
entries_counted hash s [] = omega arith
entries_counted hash s (e ∷ es) = omega (arith, step_counted hash s e.guest e.request, entries_counted hash (step hash s e.guest e.request).state es)

pub entries_never_fall : (es : List Entry) → EntriesNeverFall es
entries_never_fall es hash total shapes m n h =
    let s = empty_state total shapes in
    omega (arith, entries_counted hash s (take m es), entries_counted hash s (take n es), length-take m es, length-take n es)
