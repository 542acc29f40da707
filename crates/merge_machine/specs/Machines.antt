-- Which machine a state belongs to: the state before its first request.
use Rattle.std.specs.Prelude.{ℕ, ◌≡◌, List, length, map}
use Rattle.page_model.specs.Pages.{Guest, State}
use Rattle.page_model.specs.Replay.{Shape, empty_state, state_after}
use Rattle.page_model.specs.declared.request.Entry.{Entry}

-- a guest's salt and its number of pages
abbrev pub shape_of : Guest → Shape
shape_of g = record { salt = g.salt; pages = length g.slots }

-- the machine before its first request: the same number of frames, and guests with the same salts and numbers of pages
unfoldable pub opening : State → State
opening s = empty_state s.total (map shape_of s.guests)

-- the state is what one thread reaches that replays this journal on its machine with plain page contents
abbrev pub IsReplayOf : (ℕ → List ℕ → ℕ) → State → List Entry → Type 0
IsReplayOf hash s journal = s ≡ state_after hash (opening s) journal
