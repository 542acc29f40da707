-- A guest's entries on a machine of its own, and what the guest reads there.
use Rattle.std.specs.Prelude.{◌≡◌, ℕ, Bool, true, false, if◌then◌else◌, List, [], ◌∷◌, map, Some, slice_get}
use Rattle.std.specs.List.{list_any}
use Rattle.page_model.specs.Pages.{State}
use Rattle.page_model.specs.Replay.{Shape, empty_state, state_after, verdicts_of}
use Rattle.page_model.specs.Journal.{asked, answers}
use Rattle.page_model.specs.Stored.{byte_at}
use Rattle.page_model.specs.declared.request.Entry.{Entry}
use Rattle.page_model.specs.declared.request.Request.{Request}
use Rattle.page_model.specs.declared.request.Request.TheVariants.{Propose, Store, Load, Release, Count, Close}
use Rattle.page_model.specs.declared.verdict.Verdict.{Verdict}
use Rattle.page_model.specs.declared.verdict.Verdict.TheVariants.{NoFrame}

-- the verdict of a store that was refused a frame
abbrev pub is_no_frame : Verdict → Bool
is_no_frame NoFrame = true
is_no_frame _ = false

-- the request is a load
abbrev pub is_load : Request → Bool
is_load (Propose ppn) = false
is_load (Store r) = false
is_load (Load r) = true
is_load (Release ppn) = false
is_load Count = false
is_load Close = false

-- the verdicts of the loads, from these requests and their verdicts, one for each request
abbrev pub load_verdicts : List Request → List Verdict → List Verdict
load_verdicts [] verdicts = []
load_verdicts (r ∷ rs) [] = []
load_verdicts (r ∷ rs) (v ∷ verdicts) = if is_load r then v ∷ load_verdicts rs verdicts else load_verdicts rs verdicts

-- a machine with only this guest, with its salt and its pages, and with one frame for each page
abbrev pub lone : Shape → State
lone shape = empty_state shape.pages (shape ∷ [])

-- these requests as a journal of that machine, whose only guest is guest 0
abbrev pub by_itself : List Request → List Entry
by_itself rs = map (λ r. record { guest = 0; request = r }) rs

-- a guest's entries, as a journal of that machine
abbrev pub alone : ℕ → List Entry → List Entry
alone guest es = by_itself (asked guest es)

-- if no store of the guest was refused a frame, its loads are answered as when its entries alone are replayed
abbrev pub LoadsAsAlone : List Entry → ℕ → Type 0
LoadsAsAlone es guest =
    (hash : ℕ → List ℕ → ℕ) (total : ℕ) (shapes : List Shape) (shape : Shape) → slice_get shapes guest ≡ Some shape →
    let s = empty_state total shapes in
    list_any is_no_frame (answers hash s guest es) ≡ false →
    load_verdicts (asked guest es) (answers hash s guest es) ≡ load_verdicts (asked guest es) (verdicts_of hash (lone shape) (alone guest es))

-- and at the end each byte of its pages reads as it does there
abbrev pub PagesAsAlone : List Entry → ℕ → Type 0
PagesAsAlone es guest =
    (hash : ℕ → List ℕ → ℕ) (total : ℕ) (shapes : List Shape) (shape : Shape) → slice_get shapes guest ≡ Some shape →
    let s = empty_state total shapes in
    list_any is_no_frame (answers hash s guest es) ≡ false →
    (ppn k : ℕ) → byte_at (state_after hash s es) guest ppn k ≡ byte_at (state_after hash (lone shape) (alone guest es)) 0 ppn k
