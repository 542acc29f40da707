-- A guest's part in a journal.
use Rattle.std.specs.Prelude.{ℕ, ◌+◌, ◌==◌, if◌then◌else◌, List, [], ◌∷◌}
use Rattle.page_model.specs.Pages.{State}
use Rattle.page_model.specs.Replay.{verdicts_of}
use Rattle.page_model.specs.declared.request.Entry.{Entry}
use Rattle.page_model.specs.declared.request.Request.{Request}
use Rattle.page_model.specs.declared.verdict.Verdict.{Verdict}

-- the places of a guest's entries, in rising order, if the first entry's place is n
abbrev pub places_from : ℕ → ℕ → List Entry → List ℕ
places_from n guest [] = []
places_from n guest (e ∷ es) = if e.guest == guest then n ∷ places_from (n + 1) guest es else places_from (n + 1) guest es

-- the places of a guest's entries in a journal, in rising order
abbrev pub places : ℕ → List Entry → List ℕ
places guest es = places_from 0 guest es

-- the requests at a guest's places
abbrev pub asked : ℕ → List Entry → List Request
asked guest [] = []
asked guest (e ∷ es) = if e.guest == guest then e.request ∷ asked guest es else asked guest es

-- the verdicts at a guest's places, from verdicts that are one for each entry
abbrev pub verdicts_for : ℕ → List Entry → List Verdict → List Verdict
verdicts_for guest [] verdicts = []
verdicts_for guest (e ∷ es) [] = []
verdicts_for guest (e ∷ es) (v ∷ verdicts) = if e.guest == guest then v ∷ verdicts_for guest es verdicts else verdicts_for guest es verdicts

-- the replay's verdicts at a guest's places
abbrev pub answers : (ℕ → List ℕ → ℕ) → State → ℕ → List Entry → List Verdict
answers hash s guest es = verdicts_for guest es (verdicts_of hash s es)
