-- What holds as a journal grows.
use Rattle.std.specs.Prelude.{◌≡◌, ℕ, ◌≤◌, List, length, take}
use Rattle.page_model.specs.Replay.{Shape, empty_state, state_after, verdicts_of}
use Rattle.page_model.specs.declared.request.Entry.{Entry}

-- a longer beginning of the journal never leaves fewer entries
abbrev pub EntriesNeverFall : List Entry → Type 0
EntriesNeverFall es =
    (hash : ℕ → List ℕ → ℕ) (total : ℕ) (shapes : List Shape) (m n : ℕ) → m ≤ n →
    let s = empty_state total shapes in
    (state_after hash s (take m es)).entries ≤ (state_after hash s (take n es)).entries

-- each entry has one verdict
abbrev pub OneVerdictEach : List Entry → Type 0
OneVerdictEach es =
    (hash : ℕ → List ℕ → ℕ) (total : ℕ) (shapes : List Shape) →
    length (verdicts_of hash (empty_state total shapes) es) ≡ length es

-- the first n entries alone have the same verdicts as in the whole journal: later entries change none
abbrev pub VerdictsStay : List Entry → Type 0
VerdictsStay es =
    (hash : ℕ → List ℕ → ℕ) (total : ℕ) (shapes : List Shape) (n : ℕ) →
    let s = empty_state total shapes in
    verdicts_of hash s (take n es) ≡ take n (verdicts_of hash s es)
