-- What the stores of a whole page come to.
use Rattle.std.specs.Prelude.{◌≡◌, ℕ, ◌+◌, ◌-◌, ◌==◌, Bool, true, false, ◌&&◌, if◌then◌else◌}
use Rattle.std.specs.Prelude.{List, ◌∷◌, length, replicate, All, Some, IfSome}
use Rattle.page_model.specs.Pages.{State}
use Rattle.page_model.specs.Steps.{Step, Outcome, stored, at_page}
use Rattle.page_model.specs.Replay.{state_after, verdicts_of}
use Rattle.page_model.specs.Stored.{is_done, text_at}
use Rattle.page_model.specs.declared.limits.TheConstants.{PAGE_BYTES}
use Rattle.page_model.specs.declared.request.Entry.{Entry}
use Rattle.page_model.specs.declared.request.Request.{Request}
use Rattle.page_model.specs.declared.request.Request.TheVariants.{Propose, Store, Load, Release, Count, Close}
use Rattle.page_model.specs.declared.verdict.Verdict.{Verdict}
use Rattle.page_model.specs.declared.verdict.Verdict.TheVariants.{Stored}
use Rattle.page_lending.specs.declared.pieces.TheConstants.{STORES_A_PAGE}
use Rattle.page_lending.specs.Lending.{stores_of, entries_of, page_stored, page_lent}

-- the state after one store of all of a page's bytes, which counts as many requests as the stores that it stands for
abbrev pub at_once : State → Outcome → Step
at_once s outcome = record {
  state = record { total = s.total; guests = outcome.guests; entries = s.entries + STORES_A_PAGE };
  verdict = outcome.verdict;
}

-- storing a whole page is one store of all its bytes at place 0
abbrev pub StoresAtOnce : Type 0
StoresAtOnce =
    (hash : ℕ → List ℕ → ℕ) (s : State) (guest ppn : ℕ) (page : List ℕ) → length page ≡ PAGE_BYTES →
    page_stored hash s guest ppn page
    ≡ at_once s (at_page s.guests guest ppn (λ salt slot. stored s.total s.guests guest ppn 0 page salt slot))

-- the verdict of a store to a page right after another one with this verdict
abbrev pub verdict_after : Verdict → Verdict
verdict_after first = if is_done first then Stored else first

-- the first store's verdict decides those of the others
abbrev pub VerdictsFollow : Type 0
VerdictsFollow =
    (hash : ℕ → List ℕ → ℕ) (s : State) (guest ppn : ℕ) (page : List ℕ) →
    let first = (page_stored hash s guest ppn page).verdict in
    verdicts_of hash s (entries_of guest (stores_of ppn page)) ≡ first ∷ replicate (STORES_A_PAGE - 1) (verdict_after first)

-- if there is such a page, it has 4,096 bytes, as each page of a machine has
abbrev pub IsWhole : State → ℕ → ℕ → Type 0
IsWhole s guest ppn = IfSome (text_at s.guests guest ppn) (λ bytes. length bytes ≡ PAGE_BYTES)

-- the request stores to this page, or releases it
abbrev pub writes_page : ℕ → Request → Bool
writes_page ppn (Propose page) = false
writes_page ppn (Store r) = r.ppn == ppn
writes_page ppn (Load r) = false
writes_page ppn (Release page) = page == ppn
writes_page ppn Count = false
writes_page ppn Close = false

-- the entry leaves this page's bytes
abbrev pub LeavesPage : ℕ → ℕ → Entry → Type 0
LeavesPage guest ppn e = (e.guest == guest && writes_page ppn e.request) ≡ false

-- after a page was lent, and not refused, it has the bytes that were lent, until an entry stores to it or releases it
abbrev pub LentIsTakenBack : Type 0
LentIsTakenBack =
    (hash : ℕ → List ℕ → ℕ) (s : State) (guest ppn : ℕ) (page : List ℕ) (later : List Entry) →
    length page ≡ PAGE_BYTES → IsWhole s guest ppn →
    is_done (page_stored hash s guest ppn page).verdict ≡ true → All (LeavesPage guest ppn) later →
    text_at (state_after hash (page_lent hash s guest ppn page).state later).guests guest ppn ≡ Some page
