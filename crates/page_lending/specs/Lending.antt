-- Whole pages, in the requests of the model.
use Rattle.std.specs.Prelude.{ℕ, zero, suc, ◌+◌, if◌then◌else◌, List, [], ◌∷◌, map, take, drop, slice_index_or}
use Rattle.page_model.specs.Pages.{State}
use Rattle.page_model.specs.Steps.{Step, step}
use Rattle.page_model.specs.Replay.{state_after, verdicts_of}
use Rattle.page_model.specs.Stored.{is_done}
use Rattle.page_model.specs.declared.limits.TheConstants.{MAX_ACCESS_BYTES}
use Rattle.page_model.specs.declared.request.Entry.{Entry}
use Rattle.page_model.specs.declared.request.Request.{Request}
use Rattle.page_model.specs.declared.request.Request.TheVariants.{Propose, Store}
use Rattle.page_model.specs.declared.verdict.Verdict.TheVariants.{NoPage}
use Rattle.page_lending.specs.declared.pieces.TheConstants.{STORES_A_PAGE}

-- n stores of 64 bytes each, one after the other from a place of a page on, that write these bytes
unfoldable pub stores_from : ℕ → ℕ → ℕ → List ℕ → List Request
stores_from zero ppn at bytes = []
stores_from (suc n) ppn at bytes =
    Store (record { ppn = ppn; at = at; bytes = take MAX_ACCESS_BYTES bytes })
    ∷ stores_from n ppn (at + MAX_ACCESS_BYTES) (drop MAX_ACCESS_BYTES bytes)

-- the 64 stores that write a whole page
abbrev pub stores_of : ℕ → List ℕ → List Request
stores_of ppn page = stores_from STORES_A_PAGE ppn 0 page

-- requests of one guest as entries of a journal
abbrev pub entries_of : ℕ → List Request → List Entry
entries_of guest requests = map (λ r. record { guest = guest; request = r }) requests

-- A guest stores a whole page: the state after all its stores, and the verdict of the first of them.
unfoldable pub page_stored : (ℕ → List ℕ → ℕ) → State → ℕ → ℕ → List ℕ → Step
page_stored hash s guest ppn page =
    let entries = entries_of guest (stores_of ppn page) in
    record { state = state_after hash s entries; verdict = slice_index_or (verdicts_of hash s entries) 0 NoPage }

-- A guest lends a page: it stores the whole page, and proposes it unless the stores were refused. The verdict is that of the
-- proposal, or of the refusal.
unfoldable pub page_lent : (ℕ → List ℕ → ℕ) → State → ℕ → ℕ → List ℕ → Step
page_lent hash s guest ppn page =
    let stored = page_stored hash s guest ppn page in
    if is_done stored.verdict then step hash stored.state guest (Propose ppn) else stored
