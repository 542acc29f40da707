-- The replay of a journal: one request after another, from a machine whose pages are all unmapped.
use Rattle.std.specs.Prelude.{ℕ, List, [], ◌∷◌, map, replicate}
use Rattle.page_model.specs.Pages.{Unmapped, Guest, State}
use Rattle.page_model.specs.Steps.{step}
use Rattle.page_model.specs.declared.request.Entry.{Entry}
use Rattle.page_model.specs.declared.verdict.Verdict.{Verdict}

-- a guest before its first request: its salt and its number of pages
pub record Shape : Type 0 where
  pub salt : ℕ
  pub pages : ℕ

-- a guest with no page mapped
abbrev pub empty_guest : Shape → Guest
empty_guest g = record { salt = g.salt; slots = replicate g.pages Unmapped }

-- a machine before its first request, by its total of frames and its guests
abbrev pub empty_state : ℕ → List Shape → State
empty_state total shapes = record { total = total; guests = map empty_guest shapes; entries = 0 }

-- the state after the entries of a journal, under a hash
unfoldable pub state_after : (ℕ → List ℕ → ℕ) → State → List Entry → State
state_after hash s [] = s
state_after hash s (e ∷ es) = state_after hash (step hash s e.guest e.request).state es

-- the verdicts of the entries of a journal, one for each in order
unfoldable pub verdicts_of : (ℕ → List ℕ → ℕ) → State → List Entry → List Verdict
verdicts_of hash s [] = []
verdicts_of hash s (e ∷ es) = (step hash s e.guest e.request).verdict ∷ verdicts_of hash (step hash s e.guest e.request).state es
