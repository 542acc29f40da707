-- Which requests and verdicts end a guest's part, and where they are in their lists.
use Rattle.std.specs.Prelude.{Bool, true, false, not, ◌&&◌, List, [], ◌∷◌}
use Rattle.page_model.specs.declared.request.Request.{Request}
use Rattle.page_model.specs.declared.verdict.Verdict.{Verdict}
pub use Rattle.page_model.specs.Closing.{is_close, is_closed, has_close, has_closed}

-- all but the last
abbrev pub front : {X : Type 0} → List X → List X
front [] = []
front (x ∷ []) = []
front (x ∷ y ∷ ys) = x ∷ front (y ∷ ys)

-- whether the last passes a test
abbrev pub last_passes : {X : Type 0} → (X → Bool) → List X → Bool
last_passes p [] = false
last_passes p (x ∷ []) = p x
last_passes p (x ∷ y ∷ ys) = last_passes p (y ∷ ys)

-- whether the last verdict is `Closed`
abbrev pub last_closed : List Verdict → Bool
last_closed verdicts = last_passes is_closed verdicts

-- the two are equal
abbrev pub same : Bool → Bool → Bool
same true b = b
same false b = not b

-- xs is no longer than ys, and each of xs passes p exactly when its neighbor in ys passes q
abbrev pub passes_beside : {X Y : Type 0} → (X → Bool) → (Y → Bool) → List X → List Y → Bool
passes_beside p q [] ys = true
passes_beside p q (x ∷ xs) [] = false
passes_beside p q (x ∷ xs) (y ∷ ys) = same (p x) (q y) && passes_beside p q xs ys

-- there are no more verdicts than requests, and each verdict is `Closed` exactly when the request at its place is `Close`
abbrev pub matched : List Verdict → List Request → Bool
matched verdicts requests = passes_beside is_closed is_close verdicts requests
