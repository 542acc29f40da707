-- What is at a guest's places in a journal.
use Rattle.std.specs.Prelude.{◌≡◌, ℕ, ◌<◌, List, map, Some, slice_get}
use Rattle.page_model.specs.Replay.{Shape, empty_state, verdicts_of}
use Rattle.page_model.specs.Journal.{places, asked, answers}
use Rattle.page_model.specs.declared.request.Entry.{Entry}
use Rattle.page_model.specs.declared.request.Request.{Request}

-- a guest's entry
abbrev pub entry_of : ℕ → Request → Entry
entry_of guest r = record { guest = guest; request = r }

-- at each of the guest's places is its entry, with its request of the same number
abbrev pub PlacesHoldRequests : List Entry → ℕ → Type 0
PlacesHoldRequests es guest = map (slice_get es) (places guest es) ≡ map (λ r. Some (entry_of guest r)) (asked guest es)

-- and its answer of the same number is the replay's verdict at that place
abbrev pub PlacesHoldAnswers : List Entry → ℕ → Type 0
PlacesHoldAnswers es guest =
    (hash : ℕ → List ℕ → ℕ) (total : ℕ) (shapes : List Shape) →
    let s = empty_state total shapes in
    map (slice_get (verdicts_of hash s es)) (places guest es) ≡ map Some (answers hash s guest es)

-- each entry of the guest is at one of its places
abbrev pub AllArePlaced : List Entry → ℕ → Type 0
AllArePlaced es guest = (p : ℕ) (r : Request) → slice_get es p ≡ Some (entry_of guest r)
    → (k : ℕ) × (slice_get (places guest es) k ≡ Some p)

-- the places rise
abbrev pub PlacesRise : List Entry → ℕ → Type 0
PlacesRise es guest = (j k p q : ℕ) → j < k → slice_get (places guest es) j ≡ Some p → slice_get (places guest es) k ≡ Some q → p < q
